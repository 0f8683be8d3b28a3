-- Filters that keep a prefix or the rest of a list, and what is found in a filter.
pub use Rattle.bmx_shelves.proofs.Parts.{filter_none, filter_all, filter_front, filter_rest, find_at, find_none, find-filter_kept, find-filter_dropped, find_passes, find-append_none, find-append_last, AllPairs-append, AllPairs-tail, AllPairs-head, length-filter_not}
