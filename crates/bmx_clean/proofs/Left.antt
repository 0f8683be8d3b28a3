-- What an early table leaves, and what one does that isn't early.
use Rattle.std.proofs.Common.{◌≡◌, ℕ, ◌+◌, Bool, true, false, cond, not, ◌&&◌, ◌==◌, List, [], ◌∷◌, Option, Some, None, refl, sym, ap, ◌∙◌, filter, count_by, option_and_then}
use Rattle.std.proofs.lemmas.Bool.{cond-false}
use Rattle.bmx_table.specs.declared.tables.Table.{Table}
use Rattle.bmx_owner.specs.declared.entering.Record.{Record}
use Rattle.bmx_owner.specs.Records as owner
use Rattle.bmx_inter.specs.declared.inter.Scion.{Scion}
use Rattle.bmx_inter.specs.Inter as inter
use Rattle.bmx_clean.specs.Cleaning.{is_early, ends_record, ends_scion, records_left, record_left, scions_left, applied}
use Rattle.bmx_clean.specs.declared.cleaner.Applied.TheVariants.{Early, Removed}

module _ {X : Type 0} (p : X → Bool) where
  -- a test behind one that fails
  all_stay : (xs : List X) → filter (λ x. not (false && p x)) xs ≡ xs
  all_stay [] = refl
  all_stay (x ∷ xs) = ap (λ ys. x ∷ ys) (all_stay xs)

  none_go : (xs : List X) → count_by (λ x. false && p x) xs ≡ 0
  none_go [] = refl
  none_go (x ∷ xs) = none_go xs

  pub filter-never : (b : Bool) (xs : List X) → b ≡ false → filter (λ x. not (b && p x)) xs ≡ xs
  filter-never true xs e = cc
  filter-never false xs e = all_stay xs

  pub count-never : (b : Bool) (xs : List X) → b ≡ false → count_by (λ x. b && p x) xs ≡ 0
  count-never true xs e = cc
  count-never false xs e = none_go xs

  -- and behind one that holds
  pub filter-then : (b : Bool) (xs : List X) → b ≡ true → filter (λ x. not (b && p x)) xs ≡ filter (λ x. not (p x)) xs
  filter-then true xs e = refl
  filter-then false xs e = cc

  pub count-then : (b : Bool) (xs : List X) → b ≡ true → count_by (λ x. b && p x) xs ≡ count_by p xs
  count-then true xs e = refl
  count-then false xs e = cc

module _ (taken : ℕ) (t : Table) where
  -- an early table changes nothing
  pub records-early : (records : List Record) → is_early taken t ≡ true → records ≡ records_left taken t records
  records-early records early = sym (filter-never (λ r. owner.is_stale t.bunch t.from t.sent t.got t.names r) (not (is_early taken t)) records (ap not early))

  pub scions-early : (scions : List Scion) → is_early taken t ≡ true → scions ≡ scions_left taken t scions
  scions-early scions early = sym (filter-never (λ s. t.from == t.to && inter.is_stale t.bunch t.clock t.stubs s) (not (is_early taken t)) scions (ap not early))

  -- one that isn't early ends the stale records
  pub records-late : (records : List Record) → is_early taken t ≡ false → owner.cleaned records t.bunch t.from t.sent t.got t.names ≡ records_left taken t records
  records-late records late = sym (filter-then (λ r. owner.is_stale t.bunch t.from t.sent t.got t.names r) (not (is_early taken t)) records (ap not late))

  pub record-late : (o : Option Record) → is_early taken t ≡ false → option_and_then (λ r. cond (not (owner.is_stale t.bunch t.from t.sent t.got t.names r)) (Some r) None) o ≡ record_left taken t o
  record-late None late = refl
  record-late (Some r) late = by (owner.is_stale t.bunch t.from t.sent t.got t.names r) (is_early taken t) late
    where
      by : (stale early : Bool) → early ≡ false → cond (not stale) (Some r) None ≡ cond (not early && stale) None (Some r)
      by stale true e = cc
      by true false e = refl
      by false false e = refl

  -- and where the node made it itself the stale scions
  pub scions-own : (scions : List Scion) → is_early taken t ≡ false → (t.from == t.to) ≡ true → inter.scions_cleaned t.bunch t.clock t.stubs scions ≡ scions_left taken t scions
  scions-own scions late own =
      let stale : Scion → Bool = λ s. inter.is_stale t.bunch t.clock t.stubs s in
      sym (filter-then (λ s. t.from == t.to && stale s) (not (is_early taken t)) scions (ap not late)
      ∙ filter-then stale (t.from == t.to) scions own)

  pub scions-other : (scions : List Scion) → is_early taken t ≡ false → (t.from == t.to) ≡ false → scions ≡ scions_left taken t scions
  scions-other scions late other =
      let stale : Scion → Bool = λ s. inter.is_stale t.bunch t.clock t.stubs s in
      sym (filter-then (λ s. t.from == t.to && stale s) (not (is_early taken t)) scions (ap not late)
      ∙ filter-never stale (t.from == t.to) scions other)

  -- how many go
  pub applied-late : (records : List Record) (scions : List Scion) (m n : ℕ) → is_early taken t ≡ false → m ≡ owner.stale_count records t.bunch t.from t.sent t.got t.names → n ≡ count_by (ends_scion taken t) scions → Removed (m + n) ≡ applied taken t records scions
  applied-late records scions m n late ended own =
      let all : m ≡ count_by (ends_record taken t) records = ended ∙ sym (count-then (λ r. owner.is_stale t.bunch t.from t.sent t.got t.names r) (not (is_early taken t)) records (ap not late)) in
      ap (λ k. Removed (k + n)) all
      ∙ ap (λ k. Removed (count_by (ends_record taken t) records + k)) own
      ∙ sym (cond-false (is_early taken t) Early (Removed (count_by (ends_record taken t) records + count_by (ends_scion taken t) scions)) late)

  pub own_count : (scions : List Scion) (n : ℕ) → is_early taken t ≡ false → (t.from == t.to) ≡ true → n ≡ inter.stale_count t.bunch t.clock t.stubs scions → n ≡ count_by (ends_scion taken t) scions
  own_count scions n late own is =
      let stale : Scion → Bool = λ s. inter.is_stale t.bunch t.clock t.stubs s in
      is
      ∙ sym (count-then (λ s. t.from == t.to && stale s) (not (is_early taken t)) scions (ap not late)
      ∙ count-then stale (t.from == t.to) scions own)

  pub other_count : (scions : List Scion) (n : ℕ) → is_early taken t ≡ false → (t.from == t.to) ≡ false → n ≡ 0 → n ≡ count_by (ends_scion taken t) scions
  other_count scions n late other is =
      let stale : Scion → Bool = λ s. inter.is_stale t.bunch t.clock t.stubs s in
      is
      ∙ sym (count-then (λ s. t.from == t.to && stale s) (not (is_early taken t)) scions (ap not late)
      ∙ count-never stale (t.from == t.to) scions other)
