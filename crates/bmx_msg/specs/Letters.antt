-- What letters say: the names that they give, and a letter seen without places.
use Rattle.std.specs.Prelude.{ℕ, List, [], ◌∷◌, map, filter_map, Option, Some, None}
use Rattle.bmx_types.specs.declared.addresses.Info.{Info}
use Rattle.bmx_msg.specs.declared.letters.Field.{Field}
use Rattle.bmx_msg.specs.declared.letters.Field.TheVariants.{Null, Int, Ref}
use Rattle.bmx_msg.specs.declared.letters.Msg.{Msg}
use Rattle.bmx_msg.specs.declared.letters.Msg.TheVariants.{ReadReq, WriteReq, ReadGrant, WriteGrant, Inval, InvAck}
use Rattle.bmx_msg.specs.declared.letters.Letter.{Letter}

-- the object that a field refers to
abbrev pub target_of : Field → Option ℕ
target_of Null = None
target_of (Int n) = None
target_of (Ref info) = Some info.name

-- the objects that fields refer to, in the order of the fields
abbrev pub targets : List Field → List ℕ
targets fields = filter_map target_of fields

-- the names that a message gives: a read grant its object and the targets of its fields, a write grant
-- the targets alone, since its receiver owns the object from then on; no other message gives any
abbrev pub given : Msg → List ℕ
given (ReadReq name asker) = []
given (WriteReq name asker) = []
given (ReadGrant info fields) = info.name ∷ targets fields
given (WriteGrant info fields) = targets fields
given (Inval name) = []
given (InvAck name) = []

-- an object's description with its place left out; no object lies at the word 0
abbrev pub info_without_place : Info → Info
info_without_place info = record info { place = record { address = 0; moves = 0 } }

-- a field with places left out
abbrev pub field_without_place : Field → Field
field_without_place Null = Null
field_without_place (Int n) = Int n
field_without_place (Ref info) = Ref (info_without_place info)

-- a message with places left out
abbrev pub without_places : Msg → Msg
without_places (ReadReq name asker) = ReadReq name asker
without_places (WriteReq name asker) = WriteReq name asker
without_places (ReadGrant info fields) = ReadGrant (info_without_place info) (map field_without_place fields)
without_places (WriteGrant info fields) = WriteGrant (info_without_place info) (map field_without_place fields)
without_places (Inval name) = Inval name
without_places (InvAck name) = InvAck name

-- a letter with places left out: two nodes that differ only in where objects lie send the same
abbrev pub letter_without_places : Letter → Letter
letter_without_places letter = record letter { msg = without_places letter.msg }
