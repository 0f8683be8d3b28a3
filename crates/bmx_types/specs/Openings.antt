-- What a store opens with.
use Rattle.std.specs.Prelude.{◌≡◌, ℕ, ◌+◌, ◌-◌, ◌<◌, ◌≤◌, List, [], ◌∷◌, length, Contains, slice_get, Some, max}
use Rattle.bmx_types.specs.declared.values.Val.TheVariants.{Ref}
use Rattle.bmx_types.specs.declared.openings.Birth.{Birth}

-- one more than the greatest number of a bunch
abbrev pub bunches_of : List Birth → ℕ
bunches_of [] = 0
bunches_of (b ∷ bs) = max (b.bunch + 1) (bunches_of bs)

-- the name is that of an object of the bunch
pub record IsOfBunch (births : List Birth) (bunch name : ℕ) : Type 0 where
  pub named : 0 < name
  pub there : name ≤ length births
  pub same : (b : Birth) → slice_get births (name - 1) ≡ Some b → b.bunch ≡ bunch

-- the objects are the first names of node 0, in order; the first of them are the anchors of the
-- bunches, with 32 fields; no object has more; each refers to objects of its own bunch
pub record AreBirths (births : List Birth) : Type 0 where
  pub few : length births ≤ 320000
  pub named : (i : ℕ) (b : Birth) → slice_get births i ≡ Some b → b.name ≡ i + 1
  pub some : 0 < bunches_of births
  pub bunches : bunches_of births ≤ 16
  pub anchors : bunches_of births ≤ length births
  pub first : (i : ℕ) (b : Birth) → i < bunches_of births → slice_get births i ≡ Some b → b.bunch ≡ i
  pub wide : (i : ℕ) (b : Birth) → i < bunches_of births → slice_get births i ≡ Some b → length b.fields ≡ 32
  pub sizes : (b : Birth) → Contains births b → length b.fields ≤ 32
  pub closed : (b : Birth) (name : ℕ) → Contains births b → Contains b.fields (Ref name) → IsOfBunch births b.bunch name

-- 1 to 8 nodes, 1 to 65,535 segments for each
pub record IsOpening (nodes limit : ℕ) (births : List Birth) : Type 0 where
  pub a_node : 0 < nodes
  pub few_nodes : nodes ≤ 8
  pub a_segment : 0 < limit
  pub few_segments : limit ≤ 65535
  pub born : AreBirths births
