-- What a letter that doesn't clash gives whoever learns its Infos.
use Rattle.std.proofs.Common.{◌≡◌, ℕ, Bool, true, false, List, ◌∷◌, refl}
use Rattle.std.specs.Prelude.{◌||◌}
use Rattle.bmx_types.specs.declared.addresses.Info.{Info}
use Rattle.bmx_token.specs.declared.parts.Part.{Part}
use Rattle.bmx_protocol.specs.Changes.{heard}
use Rattle.bmx_protocol.specs.Places.{with_learnt}
use Rattle.bmx_protocol.specs.Strays.{clashes, some_clash}
use Rattle.bmx_memory.specs.Shown.{Shown, Fits, known_with}

no_first : (a b : Bool) → (a || b) ≡ false → a ≡ false
no_first true b e = e
no_first false b e = refl

-- the first Info fits
pub first_fits : (m : Shown) (from : ℕ) (parts : ℕ → Part) (i : Info) (more : List Info) → some_clash m.me from (known_with m.object parts) m.places (i ∷ more) ≡ false → Fits m i
first_fits m from parts i more e = record {
  parts = parts;
  none = no_first (clashes m.me (known_with m.object parts) m.places i) (some_clash m.me from (heard from (known_with m.object parts) i) (with_learnt m.places i) more) e;
}
