-- A table that is taken twice in a row removes nothing the second time.
use Rattle.std.proofs.Common.{◌≡◌, ℕ, ◌+◌, Bool, true, false, cond, not, List, [], ◌∷◌, length, filter, count_by, refl, ap, sym, ◌∙◌, subst, arith}
use Rattle.std.specs.Prelude.{Option, Some, None}
use Rattle.std.specs.Option.{option_and_then}
use Rattle.std.proofs.Math.Path.{fun_ext}
use Rattle.std.proofs.lemmas.Bool.{cond-true, cond-false}
use Rattle.std.proofs.lemmas.List.Sums.{length-filter}
use Rattle.std.proofs.lemmas.List.Kept.{AllPairs-filter}
use Rattle.bmx_table.specs.declared.tables.Table.{Table}
use Rattle.bmx_owner.specs.declared.entering.Record.{Record}
use Rattle.bmx_owner.specs.Records.{IsBefore, IsInOrder, find_record}
use Rattle.bmx_owner.proofs.Found.{find_record-filter, same_records}
use Rattle.bmx_inter.specs.declared.inter.Scion.{Scion}
use Rattle.bmx_clean.specs.Cleaning.{is_early, ends_record, ends_scion, record_left, scions_left, applied}
use Rattle.bmx_clean.specs.declared.cleaner.Applied.TheVariants.{Early, Removed}
use Rattle.bmx_protocol.specs.Nodes.{Setting}
use Rattle.bmx_collection.specs.Tables.{is_stray_table, state_cleaned, links_cleaned}
use Rattle.bmx_collection.specs.Steps.{LinkedNode, CollectorTold, CollectorReaction, Cleaned, Stray, CollectorDone, unchanged, take_table_rule, counted, AreRecords}
use Rattle.bmx_collection.specs.Laws.{RemovedNothing, SecondTakingRemovesNothing}

-- ## filters

module _ {X : Type 0} (p : X → Bool) where
  -- what passes, passes again
  again : (xs : List X) → filter p (filter p xs) ≡ filter p xs
  again [] = refl
  again (x ∷ xs) = by (p x) refl (again xs)
    where
      by : (b : Bool) → p x ≡ b → filter p (filter p xs) ≡ filter p xs → filter p (cond b (x ∷ filter p xs) (filter p xs)) ≡ cond b (x ∷ filter p xs) (filter p xs)
      by true e later = cond-true (p x) (x ∷ filter p (filter p xs)) (filter p (filter p xs)) e ∙ ap (λ ys. x ∷ ys) later
      by false e later = later

  -- nothing of what fails passes
  none_left : (xs : List X) → filter p (filter (λ x. not (p x)) xs) ≡ []
  none_left [] = refl
  none_left (x ∷ xs) = by (p x) refl (none_left xs)
    where
      rest : List X
      rest = filter (λ x. not (p x)) xs

      by : (b : Bool) → p x ≡ b → filter p rest ≡ [] → filter p (cond (not b) (x ∷ rest) rest) ≡ []
      by true e later = later
      by false e later = cond-false (p x) (x ∷ filter p rest) (filter p rest) e ∙ later

  -- none is counted where none passes
  none_counted : (xs : List X) → filter p xs ≡ [] → count_by p xs ≡ 0
  none_counted xs e = sym (length-filter p xs) ∙ ap length e

-- ## what is left once a table was taken

module _ (taken : ℕ) (t : Table) where
  left_again : (o : Option Record) → record_left taken t (record_left taken t o) ≡ record_left taken t o
  left_again None = refl
  left_again (Some r) = by (ends_record taken t r) refl
    where
      by : (b : Bool) → ends_record taken t r ≡ b → record_left taken t (cond b None (Some r)) ≡ cond b None (Some r)
      by true e = refl
      by false e = cond-false (ends_record taken t r) None (Some r) e

  -- no record that is left is ended
  none_ends : (o : Option Record) → option_and_then (λ r. cond (ends_record taken t r) (Some r) None) (record_left taken t o) ≡ None
  none_ends None = refl
  none_ends (Some r) = by (ends_record taken t r) refl
    where
      by : (b : Bool) → ends_record taken t r ≡ b → option_and_then (λ r. cond (ends_record taken t r) (Some r) None) (cond b None (Some r)) ≡ None
      by true e = refl
      by false e = cond-false (ends_record taken t r) (Some r) None e

  no_records : (entering : ℕ → ℕ → Option Record) (records : List Record) → IsInOrder records →
      ((name node : ℕ) → find_record records name node ≡ record_left taken t (entering name node)) → filter (ends_record taken t) records ≡ []
  no_records entering records order all =
      same_records (filter (ends_record taken t) records) [] (AllPairs-filter IsBefore (ends_record taken t) records order) (λ i j d lt less. absurd (omega (arith, less)))
      (λ name node. find_record-filter (ends_record taken t) records name node order
      ∙ ap (option_and_then (λ r. cond (ends_record taken t r) (Some r) None)) (all name node)
      ∙ none_ends (entering name node))

  -- so it removes nothing
  nothing_removed : (entering : ℕ → ℕ → Option Record) (records : List Record) (scions : List Scion) → IsInOrder records →
      ((name node : ℕ) → find_record records name node ≡ record_left taken t (entering name node)) →
      RemovedNothing (Cleaned (applied taken t records (scions_left taken t scions)))
  nothing_removed entering records scions order all = by (is_early taken t) _ none
    where
      none : count_by (ends_record taken t) records + count_by (ends_scion taken t) (scions_left taken t scions) ≡ 0
      none =
          let some_records : count_by (ends_record taken t) records ≡ 0 = none_counted (ends_record taken t) records (no_records entering records order all) in
          let some_scions : count_by (ends_scion taken t) (scions_left taken t scions) ≡ 0 = none_counted (ends_scion taken t) (scions_left taken t scions) (none_left (ends_scion taken t) scions) in
          omega (arith, some_records, some_scions)

      by : (b : Bool) (many : ℕ) → many ≡ 0 → RemovedNothing (Cleaned (cond b Early (Removed many)))
      by true many e = tt
      by false many e = e

-- ## two steps

-- a node whose table was taken
abbrev cleaned_by : Table → LinkedNode → LinkedNode
cleaned_by t n = record n { state = state_cleaned t n.state; links = links_cleaned t n.state n.links }

-- cleaned again it is as before
cleaned_again : (t : Table) (n : LinkedNode) → cleaned_by t (counted (cleaned_by t n)) ≡ counted (cleaned_by t n)
cleaned_again t n = λ j. record (counted (cleaned_by t n)) {
  state = record (counted (cleaned_by t n)).state {
    entering = fun_ext (λ name. fun_ext (λ node. left_again (n.state.taken t.from) t (n.state.entering name node))) j;
  };
  links = record (cleaned_by t n).links { scions = again (λ s. not (ends_scion (n.state.taken t.from) t s)) n.links.scions j };
}

-- what the second taking makes, by whether the table is stray
abbrev Again : LinkedNode → CollectorReaction → Type 0
Again m r = RemovedNothing r.answer × (r.node ≡ m)

stray_again : (st : Setting) (me : ℕ) (t : Table) (m : LinkedNode) (told : CollectorTold) → is_stray_table st me t ≡ true → Again m (take_table_rule st me m told t)
stray_again st me t m told e =
    subst (Again m) (sym (cond-true (is_stray_table st me t) (unchanged m Stray) _ e)) (tt, refl)

cleaned_twice : (st : Setting) (me : ℕ) (t : Table) (n : LinkedNode) (told : CollectorTold) → is_stray_table st me t ≡ false →
    AreRecords (counted (cleaned_by t n)).state told.records →
    Again (counted (cleaned_by t n)) (take_table_rule st me (counted (cleaned_by t n)) told t)
cleaned_twice st me t n told e records =
    subst (Again (counted (cleaned_by t n))) (sym (cond-false (is_stray_table st me t) (unchanged (counted (cleaned_by t n)) Stray) _ e))
    (nothing_removed (n.state.taken t.from) t n.state.entering told.records n.links.scions records.in_order records.all, cleaned_again t n)

-- by what the first made
after_first : (st : Setting) (me : ℕ) (t : Table) (n m : LinkedNode) (first told : CollectorTold) (stray : Bool) → is_stray_table st me t ≡ stray →
    m ≡ counted (take_table_rule st me n first t).node → AreRecords m.state told.records → Again m (take_table_rule st me m told t)
after_first st me t n m first told true e is records = stray_again st me t m told e
after_first st me t n m first told false e is records =
    let same : m ≡ counted (cleaned_by t n) =
    is ∙ ap (λ (r : CollectorReaction). counted r.node) (cond-false (is_stray_table st me t) (unchanged n Stray) _ e) in
    subst (λ (x : LinkedNode). AreRecords x.state told.records → Again x (take_table_rule st me x told t)) (sym same)
    (λ at. cleaned_twice st me t n told e at) records

pub second_taking_removes_nothing : SecondTakingRemovesNothing
second_taking_removes_nothing st me stamp later t n m n' c d one two =
    let both : Again m (take_table_rule st me m two.told t) =
    after_first st me t n m one.told two.told (is_stray_table st me t) refl one.node two.is_told.records in (
      subst RemovedNothing (sym (ap (λ (x : CollectorDone). x.answer) two.outcome)) both.0,
      two.node ∙ ap counted both.1,
    )
