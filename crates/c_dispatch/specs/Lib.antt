pub mod StoredCallLaws
