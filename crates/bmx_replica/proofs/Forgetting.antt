-- A name that is forgotten: its header is dead.
use Rattle.std.proofs.Common.{◌≡◌, ◌≢◌, ◌⊎◌, ℕ, ◌+◌, ◌*◌, ◌^◌, ◌<◌, true, false, List, Some, None, refl, sym, ap, subst, ◌∙◌, inl, inr, arith}
use Rattle.std.proofs.Math.Logic.{∥∥₁_map}
use Rattle.std.specs.Prelude.{◌==◌, if◌then◌else◌}
use Rattle.std.specs.Option.{option_map, option_and_then}
use Rattle.std.proofs.lemmas.Bool.{cases_eq, false≢true, eq-eqb, ne_eqb}
use Rattle.std.proofs.lemmas.Option.{none-some, same_Some}
use Rattle.bmx_segment.specs.Headers.{kind_of}
use Rattle.bmx_segment.specs.Blocks.{Block}
use Rattle.bmx_segment.specs.Stores.{header_at, word_at, AreApart, Sets}
use Rattle.bmx_segment.specs.declared.headers.Header.{Header}
use Rattle.bmx_segment.specs.declared.headers.State.TheVariants.{Forwarded, Dead}
use Rattle.bmx_replica.specs.Slots.{slot_of, address_of}
use Rattle.bmx_replica.specs.Inside.Slots.{PutsSlot}
use Rattle.bmx_replica.specs.Chains.{is_live, name_at, living, living_at, Leads, here, on, Ends, EndsLive, Means, Reaches}
use Rattle.bmx_replica.specs.Layouts.{kinds_in}
use Rattle.bmx_replica.specs.Replicas.{IsReplica, IsField, entry_at}
use Rattle.bmx_replica.specs.Inside.Replicas.{IsFound}
use Rattle.bmx_replica.specs.declared.directory.Slot.{Slot}
use Rattle.bmx_replica.proofs.Chained.{name_at-from, alive, not_live, Means-from, name_at-means}
use Rattle.bmx_replica.proofs.Changing.{disjoint}
use Rattle.bmx_replica.proofs.Laid.{sets_there, sets_other}
use Rattle.bmx_replica.proofs.Standing.{IsField-same, address_same, address_other, entry_from, entry_none, slot_cases, with_fields-same}

-- where each header that changes ends a chain, all chains end
Leads-ends : (old new : List Block) (b : ℕ) (y : Header) (x : ℕ) → ((x : ℕ) → (header_at new x ≡ header_at old x) ⊎ Ends new x) → Leads old b y x → Ends new x
Leads-ends old new b y x kept (here e end) =
    elim (kept b) [ inl same ↦ record { at = b; header = y; leads = here (same ∙ e) end } | inr l ↦ l ]
Leads-ends old new b y x kept (on c h e f rest) =
    elim (kept x) [
      | inl same ↦ let l = Leads-ends old new b y c kept rest in record { at = l.at; header = l.header; leads = on c h (same ∙ e) f l.leads }
      | inr l ↦ l
    ]

module _ (slots slots' : List (ℕ × Slot)) (old new : List Block) (n : ℕ) (s : Slot) (h : Header) (kept : IsReplica slots old) (found : IsFound slots old n s h) (apart : AreApart old) (puts : PutsSlot slots slots' n None) (sets : Sets old new s.address (record h { state = Dead })) where
  a : ℕ
  a = s.address

  abbrev dead : Header
  dead = record h { state = Dead }

  dead_there : header_at new s.address ≡ Some (record h { state = Dead })
  dead_there = sets_there old new s.address dead sets

  others : (x : ℕ) → x ≢ s.address → header_at new x ≡ header_at old x
  others x off = sets_other old new s.address dead x sets off

  place : address_of slots n ≡ Some s.address
  place = ap (option_map (λ (t : Slot). t.address)) found.slot

  living_there : living_at old s.address ≡ Some n
  living_there = (kept.entries n s.address).0 place

  no_longer : living_at new s.address ≡ None
  no_longer = ap (option_and_then living) dead_there

  living_kept : (x : ℕ) → x ≢ s.address → living_at new x ≡ living_at old x
  living_kept x off = ap (option_and_then living) (others x off)

  pub forgotten_names : (x m : ℕ) → name_at old x ≡ Some m → name_at new x ≡ Some m
  forgotten_names x m e =
      elim (cases_eq x s.address) [
        | inl at ↦ ap (name_at new) at ∙ name_at-from new s.address dead dead_there ∙ sym (name_at-from old s.address h found.there) ∙ ap (name_at old) (sym at) ∙ e
        | inr off ↦ ap (option_map (λ (t : Header). t.name)) (others x off) ∙ e
      ]

  gone_now : address_of slots' n ≡ None
  gone_now = ap (option_map (λ (t : Slot). t.address)) (address_same slots slots' n n None puts refl)

  others_now : (m : ℕ) → n ≢ m → address_of slots' m ≡ address_of slots m
  others_now m off = ap (option_map (λ (t : Slot). t.address)) (address_other slots slots' n m None puts off)

  elsewhere : (m x : ℕ) → n ≢ m → living_at old x ≡ Some m → x ≢ s.address
  elsewhere m x other e = λ at. other (same_Some n m (sym living_there ∙ ap (living_at old) (sym at) ∙ e))

  new_entries : (m x : ℕ) → (address_of slots' m ≡ Some x → living_at new x ≡ Some m) × (living_at new x ≡ Some m → address_of slots' m ≡ Some x)
  new_entries m x =
      elim (cases_eq n m) [
        | inl same ↦ (
          λ e. absurd (none-some x (sym gone_now ∙ ap (address_of slots') same ∙ e)),
          λ e. elim (cases_eq x s.address) [
            | inl at ↦ absurd (none-some m (sym no_longer ∙ ap (living_at new) (sym at) ∙ e))
            | inr off ↦
                let was : address_of slots n ≡ Some x = (kept.entries n x).1 (sym (living_kept x off) ∙ e ∙ ap (λ k. Some k) (sym same)) in
                absurd (off (same_Some x s.address (sym was ∙ place)))
          ],
        )
        | inr other ↦ (
          λ e.
              let was : living_at old x ≡ Some m = (kept.entries m x).0 (sym (others_now m other) ∙ e) in
              living_kept x (elsewhere m x other was) ∙ was,
          λ e. elim (cases_eq x s.address) [
            | inl at ↦ absurd (none-some m (sym no_longer ∙ ap (living_at new) (sym at) ∙ e))
            | inr off ↦ others_now m other ∙ (kept.entries m x).1 (sym (living_kept x off) ∙ e)
          ],
        )
      ]

  is_dead : (x : ℕ) (t : Header) → x ≡ s.address → header_at new x ≡ Some t → t.state ≡ Dead
  is_dead x t at e = sym (ap (λ (y : Header). y.state) (same_Some dead t (sym dead_there ∙ ap (header_at new) (sym at) ∙ e)))

  new_forwards : (x c : ℕ) (t : Header) → header_at new x ≡ Some t → t.state ≡ Forwarded c → name_at new c ≡ Some t.name
  new_forwards x c t e f =
      elim (cases_eq x s.address) [
        | inl at ↦ let d : Dead ≡ Forwarded c = sym (is_dead x t at e) ∙ f in absurd (cc)
        | inr off ↦ forgotten_names c t.name (kept.forwards x c t (sym (others x off) ∙ e) f)
      ]

  changed : (x : ℕ) → (header_at new x ≡ header_at old x) ⊎ Ends new x
  changed x =
      elim (cases_eq x s.address) [
        | inl at ↦ let E : ℕ → Type 0 = Ends new in inr (subst E (sym at) (record { at = s.address; header = dead; leads = here dead_there refl }))
        | inr off ↦ inl (others x off)
      ]

  new_ends : (x : ℕ) (t : Header) → header_at new x ≡ Some t → ∥ Ends new x ∥₁
  new_ends x t e =
      elim (changed x) [
        | inr l ↦ ∣ l ∣₁
        | inl same ↦ ∥∥₁_map (kept.ends x t (sym same ∙ e)) (λ (end : Ends old x). Leads-ends old new end.at end.header x changed end.leads)
      ]

  not_there : (x : ℕ) (t : Header) → header_at new x ≡ Some t → is_live t.state ≡ true → x ≢ s.address
  not_there x t e live = λ at. false≢true (sym (ap is_live (is_dead x t at e)) ∙ live)

  words_kept : (x i : ℕ) (t : Header) → x ≢ s.address → header_at old x ≡ Some t → i < t.size → word_at new (x + 4 + i) ≡ word_at old (x + 4 + i)
  words_kept x i t off e small =
      elim (disjoint old x s.address t h apart e found.there off) [
        | inl first ↦ sets.words (x + 4 + i) (inl (omega arith))
        | inr later ↦ sets.words (x + 4 + i) (inr (omega arith))
      ]

  new_fields : (x i : ℕ) (t : Header) → header_at new x ≡ Some t → is_live t.state ≡ true → i < t.size → IsField new (kind_of (kinds_in t.state) i) (word_at new (x + 4 + i))
  new_fields x i t e live small =
      let off = not_there x t e live in
      let had : header_at old x ≡ Some t = sym (others x off) ∙ e in
      subst (λ (w : ℕ). IsField new (kind_of (kinds_in t.state) i) w) (sym (words_kept x i t off had small))
      (IsField-same old new (kind_of (kinds_in t.state) i) (word_at old (x + 4 + i)) forgotten_names (kept.fields x i t had live small))

  new_small : (x : ℕ) (t : Header) → header_at new x ≡ Some t → is_live t.state ≡ true → kinds_in t.state < 2 ^ (2 * t.size)
  new_small x t e live = kept.small x t (sym (others x (not_there x t e live)) ∙ e) live

  new_blank : (m : ℕ) (t : Slot) (y : Header) → slot_of slots' m ≡ Some t → t.has_copy ≡ false → header_at new t.address ≡ Some y → kinds_in y.state ≡ 0
  new_blank m t y e none is =
      elim (cases_eq n m) [
        | inl same ↦ absurd (none-some t (sym (address_same slots slots' n m None puts same) ∙ e))
        | inr other ↦
            let had : slot_of slots m ≡ Some t = sym (address_other slots slots' n m None puts other) ∙ e in
            let was : living_at old t.address ≡ Some m = (kept.entries m t.address).0 (ap (option_map (λ (y : Slot). y.address)) had) in
            kept.blank m t y had none (sym (others t.address (elsewhere m t.address other was)) ∙ is)
      ]

  pub IsReplica-forgotten : IsReplica slots' new
  IsReplica-forgotten = record {
    entries = new_entries;
    forwards = new_forwards;
    ends = new_ends;
    fields = new_fields;
    small = new_small;
    blank = new_blank;
  }

  pub Means-forgotten : (w m : ℕ) → Means old w m → Means new w m
  Means-forgotten w m means = Means-from slots' new IsReplica-forgotten w m means.address (forgotten_names w m (name_at-means slots old kept w m means.ends))

  -- a chain that ends at another name doesn't pass here
  untouched : (b : ℕ) (y : Header) (x : ℕ) → y.name ≢ n → Leads old b y x → Leads new b y x
  untouched b y x other (here e end) =
      elim (cases_eq b s.address) [
        | inl at ↦ absurd (other (ap (λ (t : Header). t.name) (same_Some y h (sym e ∙ ap (header_at old) at ∙ found.there)) ∙ found.named))
        | inr off ↦ here (others b off ∙ e) end
      ]
  untouched b y x other (on c g e f rest) =
      elim (cases_eq x s.address) [
        | inl at ↦
            let is : g ≡ h = same_Some g h (sym e ∙ ap (header_at old) at ∙ found.there) in
            absurd (not_live h.state c (sym (ap (λ (t : Header). t.state) is) ∙ f) found.live)
        | inr off ↦ on c g (others x off ∙ e) f (untouched b y c other rest)
      ]

  pub Reaches-forgotten : (w m : ℕ) → m ≢ n → Reaches old w m → Reaches new w m
  Reaches-forgotten w m other reaches = record {
    address = reaches.address;
    ends = ∥∥₁_map reaches.ends (λ (e : EndsLive old w m).
        let end : Ends new w = record { at = e.end.at; header = e.end.header; leads = untouched e.end.at e.end.header w (λ is. other (sym e.named ∙ is)) e.end.leads } in
        let r : EndsLive new w m = record { end = end; named = e.named; live = e.live } in r);
  }

  others_entry : (m : ℕ) → n ≢ m → entry_at slots' new m ≡ entry_at slots old m
  others_entry m other =
      let same = address_other slots slots' n m None puts other in
      elim (slot_cases (slot_of slots m)) [
        | inl none ↦ entry_none slots' new m (same ∙ none) ∙ sym (entry_none slots old m none)
        | inr some ↦
            let t = some.0 in
            let was = alive old t.address m ((kept.entries m t.address).0 (ap (option_map (λ (y : Slot). y.address)) some.1)) in
            let off : t.address ≢ s.address = elsewhere m t.address other ((kept.entries m t.address).0 (ap (option_map (λ (y : Slot). y.address)) some.1)) in
            entry_from slots' new m t was.0 (same ∙ some.1) (others t.address off ∙ was.1)
            ∙ ap Some (with_fields-same old new t was.0 (λ i small. words_kept t.address i was.0 off was.1 small) (λ i small. kept.fields t.address i was.0 was.1 was.2 small) forgotten_names)
            ∙ sym (entry_from slots old m t was.0 some.1 was.1)
      ]

  pub Puts-forgotten : (q : ℕ) → entry_at slots' new q ≡ (if n == q then None else entry_at slots old q)
  Puts-forgotten q =
      elim (cases_eq n q) [
        | inl same ↦ entry_none slots' new q (address_same slots slots' n q None puts same) ∙ sym (ap (λ b. if b then None else entry_at slots old q) (eq-eqb n q same))
        | inr other ↦ others_entry q other ∙ sym (ap (λ b. if b then None else entry_at slots old q) (ne_eqb n q other))
      ]
