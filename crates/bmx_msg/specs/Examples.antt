-- Small cases of what letters say.
use Rattle.std.specs.Prelude.{◌≡◌, ℕ, pos, List, [], ◌∷◌, refl}
use Rattle.bmx_types.specs.declared.addresses.Info.{Info}
use Rattle.bmx_msg.specs.declared.letters.Field.{Field}
use Rattle.bmx_msg.specs.declared.letters.Field.TheVariants.{Null, Int, Ref}
use Rattle.bmx_msg.specs.declared.letters.Msg.TheVariants.{ReadReq, ReadGrant, WriteGrant}
use Rattle.bmx_msg.specs.Letters.{given, without_places}

-- the object of that name with one field, at an address, moved so often
abbrev object : ℕ → ℕ → ℕ → Info
object name address moves = record { name = name; bunch = 0; size = 1; place = record { address = address; moves = moves } }

abbrev some_fields : List Field
some_fields = Ref (object 5 0x100000000 0) ∷ Int (pos 7) ∷ Null ∷ Ref (object 3 0x100000024 1) ∷ []

a_read_grant_gives_its_object_first : given (ReadGrant (object 2 0x100000048 0) some_fields) ≡ 2 ∷ 5 ∷ 3 ∷ []
a_read_grant_gives_its_object_first = refl

a_write_grant_gives_its_targets : given (WriteGrant (object 2 0x100000048 0) some_fields) ≡ 5 ∷ 3 ∷ []
a_write_grant_gives_its_targets = refl

a_request_gives_nothing : given (ReadReq 2 1) ≡ []
a_request_gives_nothing = refl

two_places_of_one_object :
    without_places (ReadGrant (object 2 0x100000048 0) []) ≡ without_places (ReadGrant (object 2 0x300000000 1) [])
two_places_of_one_object = refl
