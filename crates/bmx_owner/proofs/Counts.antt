-- How many elements of a list pass a test.
pub use Rattle.bmx_shelves.proofs.Counts.{count_by-cons, count_by-push, count_by-insert, count_by-set, count_by-filter, count_by-agree, filter-none_pass}
