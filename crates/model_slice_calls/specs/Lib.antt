pub mod StoredCalls
