pub mod LoginRequests
