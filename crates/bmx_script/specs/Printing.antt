-- The text of an answer, as a line of a run's output.
use Rattle.std.specs.Prelude.{◌≡◌, ℕ, nat_lt, Bool, pos, List, [], ◌∷◌, ◌++◌, codes, refl}
use Rattle.std.specs.List.{list_all}
use Rattle.bmx_types.specs.Words.{maker, count_of}
use Rattle.bmx_types.specs.declared.values.Val.{Val}
use Rattle.bmx_types.specs.declared.values.Val.TheVariants as val
use Rattle.bmx_types.specs.declared.commands.Refusal.{Refusal}
use Rattle.bmx_types.specs.declared.commands.Refusal.TheVariants as refusal
use Rattle.bmx_numerals.specs.Numerals.{numeral, signed_numeral}
use Rattle.bmx_script.specs.Bytes.{space, line_feed, point}
use Rattle.bmx_script.specs.declared.printing.Shown.{Shown}
use Rattle.bmx_script.specs.declared.printing.Shown.TheVariants as shown

-- bytes of one character each
abbrev pub is_ascii : List ℕ → Bool
is_ascii bytes = list_all (λ c. nat_lt c 128) bytes

-- a name: its maker and its count, with a point between them
abbrev pub name_text : ℕ → List ℕ
name_text name = numeral (maker name) ++ point ∷ numeral (count_of name)

abbrev pub value_text : Val → List ℕ
value_text val.Null = codes "null"
value_text (val.Int k) = signed_numeral k
value_text (val.Ref name) = name_text name

abbrev pub refusal_text : Refusal → List ℕ
refusal_text refusal.Empty = codes "empty"
refusal_text refusal.NoToken = codes "token"
refusal_text refusal.Index = codes "index"
refusal_text refusal.Held = codes "held"
refusal_text refusal.Number = codes "number"
refusal_text refusal.Full = codes "full"

abbrev pub answer_text : Shown → List ℕ
answer_text (shown.Value v) = value_text v
answer_text shown.Yes = codes "yes"
answer_text shown.No = codes "no"
answer_text (shown.Refused why) = codes "refused " ++ refusal_text why

-- a line of output: the node, the line of the script, the answer, with one space between two of them,
-- and a line feed
abbrev pub line_text : ℕ → ℕ → Shown → List ℕ
line_text node number answer = numeral node ++ space ∷ numeral number ++ space ∷ answer_text answer ++ line_feed ∷ []

five_at_line_seven : line_text 0 7 (shown.Value (val.Int (pos 5))) ≡ codes "0 7 5" ++ 10 ∷ []
five_at_line_seven = refl

a_refused_command : line_text 1 12 (shown.Refused refusal.NoToken) ≡ codes "1 12 refused token" ++ 10 ∷ []
a_refused_command = refl
