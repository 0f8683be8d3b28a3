-- How a heap gets ready for an object.
use Rattle.std.specs.Prelude.{◌≡◌, ℕ}
use Rattle.bmx_segment.specs.Heaps.{Heap, CanSet}
use Rattle.bmx_replica.specs.Layouts.{CanLie, MapsFor}

-- the segment of an address is mapped: no header and no word changes, and a header of that name and size can
-- be set where it could lie; where it can't, the segment was mapped
pub record Readies (old new : Heap) (a name size : ℕ) : Type 0 where
  pub maps : MapsFor old new a
  pub lies : CanSet new a name size → CanLie old a name size
  pub can : CanLie old a name size → CanSet new a name size
  pub stays : (CanSet new a name size → ⊥) → new ≡ old
