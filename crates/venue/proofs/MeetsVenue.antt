-- The bench venue is such a venue as demand 3 speaks of. Assumes nothing.
use Rattle.std.specs.Prelude.{map, [], ◌∷◌, refl}
use Rattle.std.proofs.Common.{ap, ◌∙◌}
use Rattle.day_model.specs.Halves.{MeetsVenue, StepsAsTold}
use Rattle.day_line.specs.Lines.{our_line, says}
use Rattle.venue.specs.VenueDay.{our_venue}
use Rattle.venue.specs.VenueView.{view_v, GoodV}
use Rattle.venue.proofs.VenueCalls.{empty_good, empty_is, hears_good, hears_is, stop_good, stop_is}
use Rattle.venue.proofs.VenueAdds.{readable, adds_good, adds_is}
use Rattle.venue.proofs.VenueLine.{aside_fine, aside_says, bye_fine, bye_says, no_fine, no_says}
use Rattle.venue.proofs.VenueSent.{steps, steps_as_told}
use Rattle.venue.proofs.VenueTaken.{taken, answer-fine, answer-says, answer-sent}
use Rattle.venue.proofs.VenueLogin.{takes_good, lowest, strays_is, takes_is, accepts-ours}

-- THE BENCH VENUE IS SUCH A VENUE
unfoldable pub meets : MeetsVenue our_line our_venue
meets = record {
  view_v = view_v;
  GoodV = GoodV;
  empty_good = empty_good;
  empty_is = empty_is;
  running_is = λ w. refl;
  log_is = λ w. refl;
  readable = readable;
  adds_good = adds_good;
  adds_is = adds_is;
  hears_good = λ market b w g. hears_good market b w g;
  hears_is = λ market b w g. hears_is market b w;
  accepts_idle = λ room b w h. (taken room b w h).idle;
  answer_room = 443;
  accepts-ours = λ room b w o g r h. accepts-ours room b w o r h;
  takes_good = λ room b w h g. takes_good room b w g h;
  strays_is = λ room b w h g. (lowest room b w g h, strays_is room b w g h);
  takes_is = takes_is;
  answers-fine = λ room b w h g. (let t = taken room b w h in rw (answer-sent w.venue b room t) (answer-fine w.venue b room t, tt));
  answers_is = λ room b w h g.
      (let t = taken room b w h in ap (map says) (answer-sent w.venue b room t) ∙ ap (λ x. x ∷ []) (answer-says w.venue b room t));
  step_good = λ room w g r. (steps w g r room).good;
  step-fine = λ room w g r. (steps w g r room).fine;
  step_is = λ room w g r. (steps w g r room).is;
  stop_good = stop_good;
  stop_is = stop_is;
  aside_fine = aside_fine;
  aside_is = aside_says;
  bye_fine = bye_fine;
  bye_is = bye_says;
  no_fine = no_fine;
  no_is = no_says;
}

-- AND ITS STEPS ARE DOCUMENT 01'S, with room for the longest message
unfoldable pub steps_told : StepsAsTold our_line our_venue meets
unfolding meets
steps_told = record { step_room = 2048; steps_as_told = λ room w g r h. steps_as_told w g r room h }
