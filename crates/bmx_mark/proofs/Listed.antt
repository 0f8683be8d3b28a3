-- Each key that lives stays on a list, after each change of a mark's lists.
use Rattle.std.proofs.Common.{◌≡◌, ◌≢◌, ℕ, ◌<◌, true, false, not, ◌||◌, List, [], ◌∷◌, length, refl, sym, ap, ◌∙◌, subst, inl, inr}
use Rattle.std.specs.FinSet as set
use Rattle.std.specs.Ordering.{nat_cmp}
use Rattle.std.specs.Cmp.{nat_cmp_total, unsigned_tied}
use Rattle.std.proofs.lemmas.Bool.{and_parts, or_cases, cases_eq, eq-eqb, eqb-true}
use Rattle.bmx_ilist.specs.Sequences.{Sequences, has_key, is_in_list, pushed, unlinked}
use Rattle.bmx_ilist.proofs.Keys.{clash, has_without_other}
use Rattle.bmx_ilist.proofs.Calls.{length-unlinked, pushed_in, pushed_stays}
use Rattle.bmx_mark.specs.Marks.{AreListed}

-- a key is on a list as before once another is taken out
unlinked_other : (q k : ℕ) (lists : List (List ℕ)) → q ≢ k → is_in_list (unlinked k lists) q ≡ is_in_list lists q
unlinked_other q k [] ne = refl
unlinked_other q k (xs ∷ rest) ne =
    ap (λ b. b || is_in_list (unlinked k rest) q) (has_without_other q k xs ne) ∙ ap (λ b. has_key q xs || b) (unlinked_other q k rest ne)

-- a key is taken out and ended
pub AreListed-ended : (s t : Sequences) (k : ℕ) → AreListed s → t.lists ≡ unlinked k s.lists → t.live ≡ set.remove s.live k → AreListed t
AreListed-ended s t k listed lists live = λ q there.
    let left = and_parts _ _ (sym (set.contains-remove nat_cmp_total s.live k q) ∙ ap (λ l. set.contains l q) (sym live) ∙ there) in
    let other : q ≢ k = λ e. clash _ left.0 (ap not (unsigned_tied q k ∙ eq-eqb q k e)) in
    ap (λ l. is_in_list l q) lists ∙ unlinked_other q k s.lists other ∙ listed q left.1

-- a new key is put at the end of a list
pub AreListed-added : (s t : Sequences) (list k : ℕ) → AreListed s → list < length s.lists → t.lists ≡ pushed list k s.lists → t.live ≡ set.insert s.live k → AreListed t
AreListed-added s t list k listed within lists live = λ q there.
    ap (λ l. is_in_list l q) lists
    ∙ elim (or_cases _ _ (sym (set.contains-insert nat_cmp_total s.live k q) ∙ ap (λ l. set.contains l q) (sym live) ∙ there)) [
      | inl e ↦ let is : q ≡ k = eqb-true q k (sym (unsigned_tied q k) ∙ e) in subst (λ j. is_in_list (pushed list k s.lists) j ≡ true) (sym is) (pushed_in list k s.lists within)
      | inr was ↦ pushed_stays list k q s.lists (listed q was)
    ]

-- a key goes from its list to the end of one
pub AreListed-moved : (s t : Sequences) (list k : ℕ) → AreListed s → list < length s.lists → t.lists ≡ pushed list k (unlinked k s.lists) → t.live ≡ s.live → AreListed t
AreListed-moved s t list k listed within lists live = λ q there.
    let was : is_in_list s.lists q ≡ true = listed q (ap (λ l. set.contains l q) (sym live) ∙ there) in
    ap (λ l. is_in_list l q) lists
    ∙ elim (cases_eq q k) [
      | inl e ↦ subst (λ j. is_in_list (pushed list k (unlinked k s.lists)) j ≡ true) (sym e) (pushed_in list k (unlinked k s.lists) (subst (λ n. list < n) (sym (length-unlinked k s.lists)) within))
      | inr ne ↦ pushed_stays list k q (unlinked k s.lists) (unlinked_other q k s.lists ne ∙ was)
    ]

-- no key lives
pub AreListed-none : (s : Sequences) → s.live ≡ set.empty → AreListed s
AreListed-none s none = λ q there. absurd (let t : false ≡ true = sym (set.contains-empty nat_cmp q) ∙ ap (λ l. set.contains l q) (sym none) ∙ there in cc)
