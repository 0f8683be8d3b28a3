-- Which stores need a stub and a scion.
use Rattle.std.specs.Prelude.{◌≡◌, ℕ, Bool, true, false, not, ◌==◌, pos, refl}
use Rattle.bmx_types.specs.declared.addresses.Info.{Info}
use Rattle.bmx_msg.specs.declared.letters.Field.{Field}
use Rattle.bmx_msg.specs.declared.letters.Field.TheVariants.{Null, Int, Ref}

-- what is stored in a field of an object of the bunch refers to an object of another one
abbrev pub needs_pair : ℕ → Field → Bool
needs_pair bunch Null = false
needs_pair bunch (Int n) = false
needs_pair bunch (Ref info) = not (info.bunch == bunch)

-- an object of bunch 1
an_object : Info
an_object = record { name = 2; bunch = 1; size = 1; place = record { address = 0; moves = 0 } }

within_and_across : (needs_pair 1 (Ref an_object) ≡ false) × (needs_pair 0 (Ref an_object) ≡ true) × (needs_pair 0 (Int (pos 5)) ≡ false)
unfolding an_object
within_and_across = (refl, refl, refl)
