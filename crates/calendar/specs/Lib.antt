pub mod Calendar
pub mod CalendarLaws
