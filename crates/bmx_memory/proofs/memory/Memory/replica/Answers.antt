use Rattle.std.proofs.Common.{◌≡◌, ℕ, Option, Some, None, slice_get, refl, sym, ap, subst, ◌∙◌}
use Rattle.std.specs.Option.{option_map_or}
use Rattle.bmx_types.specs.declared.values.Val.TheVariants as val
use Rattle.bmx_segment.specs.Headers.{kind_number}
use Rattle.bmx_replica.specs.declared.words.Word.{Word}
use Rattle.bmx_memory.specs.Contents.{Contents, value_at}
use Rattle.bmx_memory.specs.Meaning.{MeansWhole}
use Rattle.bmx_memory.specs.Shown.{shown, HasEntry, AllHaveEntries}
use Rattle.bmx_memory.specs.Inside.Keeping.{Keeps}
use Rattle.bmx_memory.specs.contracts.memory.Memory.{the_view}
use Rattle.bmx_memory.proofs.Reached.{means_whole, target_held, field_target}
use Rattle.bmx_memory.proofs.Shows.{register_shown, value_shown, entry_shown}
use Rattle.bmx_memory.proofs.memory.Memory.replica.Goals as goal

-- what a register holds has an entry
held_known : (m : Contents) → Keeps m → (q : ℕ) (o : Option Word) → slice_get m.registers q ≡ o → HasEntry (shown m) ((shown m).register q)
unfolding shown
held_known m kept q None none = subst (HasEntry (shown m)) (sym (ap (λ o. option_map_or (value_at m.replica) o val.Null) none)) tt
held_known m kept q (Some w) is =
    subst (HasEntry (shown m)) (sym (register_shown m q w is))
    (entry_shown m (value_at m.replica w) (target_held m.replica kept.sound.replica kept.standing (kind_number w.kind) w.word (kept.held q w is)))

all_known : (m : Contents) → Keeps m → AllHaveEntries (shown m)
all_known m kept = record {
  registers = λ q. held_known m kept q (slice_get m.registers q) refl;
  fields = λ name i v is. entry_shown m v (field_target m.replica kept.sound.replica kept.standing name i v (sym (value_shown m name i) ∙ is));
}

pub returns-clause-whole : goal.returns-clause-whole
returns-clause-whole c = subst MeansWhole c.self.view_is (means_whole (the_view c.self.inside) c.self.invariant.0)

pub returns-clause-known : goal.returns-clause-known
returns-clause-known c = subst (λ (m : Contents). AllHaveEntries (shown m)) c.self.view_is (all_known (the_view c.self.inside) c.self.invariant.0)
