-- Where the values come from that a command puts somewhere: an operand, a field, a sum, or null.
use Rattle.std.proofs.Common.{◌≡◌, ℕ, ℤ, Option, Some, None, slice_get, IfSome, refl}
use Rattle.std.specs.Option.{option_map}
use Rattle.bmx_types.specs.declared.values.Val.{Val}
use Rattle.bmx_types.specs.declared.values.Val.TheVariants as val
use Rattle.bmx_types.specs.declared.commands.Operand.{Operand}
use Rattle.bmx_types.specs.declared.commands.Command.{Command}
use Rattle.bmx_types.specs.declared.commands.Command.TheVariants as command
use Rattle.bmx_types.specs.declared.numbers.Mode.{Mode}
use Rattle.bmx_graph.specs.declared.effects.Effect.{Effect}
use Rattle.bmx_graph.specs.declared.effects.Effect.TheVariants.{Nothing, Makes, Sets, Stores, Holds}
use Rattle.bmx_graph.specs.State.{State, fields_of}
use Rattle.bmx_graph.specs.Step.{value_of, target_of, field_at, sum_of, raised_by, holding, storing, setting, effect}

-- the value that an effect puts into a register or a field, if any, has it
abbrev pub EachValue : (Val → Type 0) → Effect → Type 0
EachValue P Nothing = Unit {0}
EachValue P (Makes register bunch size) = Unit {0}
EachValue P (Sets register v) = P v
EachValue P (Stores name index v) = P v
EachValue P (Holds name hold) = Unit {0}

-- the operand that a command puts into a register or a field, if any, has it
abbrev pub EachPut : (Operand → Type 0) → Command → Type 0
EachPut P (command.New register bunch size) = Unit {0}
EachPut P (command.Copy register value) = P value
EachPut P (command.Drop register) = Unit {0}
EachPut P (command.Read on) = Unit {0}
EachPut P (command.Write on) = Unit {0}
EachPut P (command.Done on) = Unit {0}
EachPut P (command.Set on index value) = P value
EachPut P (command.Add on index by) = Unit {0}
EachPut P (command.Get register on index) = Unit {0}
EachPut P (command.Show on index) = Unit {0}
EachPut P (command.Same left right) = Unit {0}

holding_values : (P : Val → Type 0) (name : Option ℕ) (hold : Option Mode) → EachValue P (holding name hold)
holding_values P None hold = tt
holding_values P (Some name) hold = tt

storing_values : (P : Val → Type 0) (name : Option ℕ) (index : ℕ) (v : Option Val) → IfSome v P → EachValue P (storing name index v)
storing_values P None index v h = tt
storing_values P (Some name) index None h = tt
storing_values P (Some name) index (Some v) h = h

setting_values : (P : Val → Type 0) (register : ℕ) (v : Option Val) → IfSome v P → EachValue P (setting register v)
setting_values P register None h = tt
setting_values P register (Some v) h = h

found_values : (P : Val → Type 0) (v : Option Val) → ((w : Val) → v ≡ Some w → P w) → IfSome v P
found_values P None h = tt
found_values P (Some v) h = h v refl

sum_values : (P : Val → Type 0) (v : Option Val) (by : ℤ) → ((k : ℤ) → P (val.Int k)) → IfSome (raised_by v by) P
sum_values P None by numbers = tt
sum_values P (Some v) by numbers = by_sum (sum_of v by)
  where
    by_sum : (k : Option ℤ) → IfSome (option_map (λ k. val.Int k) k) P
    by_sum None = tt
    by_sum (Some k) = numbers k

-- what holds of null, of numbers, of the fields and of the operands that are put somewhere
pub effect_values : (P : Val → Type 0) (s : State) (n : ℕ) (c : Command) → P val.Null → ((k : ℤ) → P (val.Int k))
    → ((x i : ℕ) (v : Val) → slice_get (fields_of s x) i ≡ Some v → P v) → EachPut (λ o. P (value_of s n o)) c → EachValue P (effect s n c)
effect_values P s n (command.New register bunch size) null numbers fields put = tt
effect_values P s n (command.Copy register value) null numbers fields put = put
effect_values P s n (command.Drop register) null numbers fields put = null
effect_values P s n (command.Read on) null numbers fields put = holding_values P (target_of s n on) _
effect_values P s n (command.Write on) null numbers fields put = holding_values P (target_of s n on) _
effect_values P s n (command.Done on) null numbers fields put = holding_values P (target_of s n on) _
effect_values P s n (command.Set on index value) null numbers fields put =
    storing_values P (target_of s n on) index (Some (value_of s n value)) put
effect_values P s n (command.Add on index by) null numbers fields put =
    storing_values P (target_of s n on) index _ (sum_values P (field_at s (target_of s n on) index) by numbers)
effect_values P s n (command.Get register on index) null numbers fields put = by_name (target_of s n on)
  where
    by_name : (name : Option ℕ) → EachValue P (setting register (field_at s name index))
    by_name None = tt
    by_name (Some name) = setting_values P register _ (found_values P (slice_get (fields_of s name) index) (fields name index))
effect_values P s n (command.Show on index) null numbers fields put = tt
effect_values P s n (command.Same left right) null numbers fields put = tt
