-- The index of the names that can be served: what it has after one name was put in or taken out.
use Rattle.std.proofs.Common.{◌≡◌, ◌≢◌, ◌↔◌, ℕ, zero, suc, ◌+◌, ◌<◌, Bool, true, false, ◌||◌, cond, eqb, List, [], ◌∷◌, length, get_or, Contains, Option, Some, None, refl, sym, ap, ◌∙◌, subst, ⊎_elim, arith, nat_lt, ◌==◌, not}
use Rattle.std.proofs.lemmas.Bool.{cases_Bool, cases_eq, eqb-true, eq-eqb, ne_eqb, false≢true}
use Rattle.std.specs.Map.{lookup}
use Rattle.std.specs.Option.{option_map_or}
use Rattle.bmx_types.specs.Updates.{put}
use Rattle.bmx_token.specs.declared.parts.Part.{Part}
use Rattle.bmx_token.specs.declared.parts.Role.{Role}
use Rattle.bmx_token.specs.declared.parts.Role.TheVariants.{Owner, Parent}
use Rattle.bmx_token.specs.Transitions.{can_serve}
use Rattle.bmx_token.specs.Nodes.{nodes_with as names_with, nodes_without as names_without}
use Rattle.indexmap.specs.IndexMap.{IndexMap, WritesThrough}
use Rattle.bmx_tokens.specs.Tables.{part_in, is_served_at}
use Rattle.bmx_tokens.proofs.Map.{same_name, written}

-- whether a list has a name
abbrev pub has : List ℕ → ℕ → Bool
has [] x = false
has (y ∷ ys) x = cond (eqb y x) true (has ys x)

has_at : (xs : List ℕ) (x k : ℕ) → k < length xs → get_or xs k x ≡ x → has xs x ≡ true
has_at [] x k within is = absurd (omega arith)
has_at (y ∷ ys) x zero within is = rw (eq-eqb y x is) refl
has_at (y ∷ ys) x (suc k) within is = by (eqb y x) (has_at ys x k (omega arith) is)
  where
    by : (b : Bool) → has ys x ≡ true → cond b true (has ys x) ≡ true
    by true later = refl
    by false later = later

pub has-Contains : (xs : List ℕ) (x : ℕ) → Contains xs x → has xs x ≡ true
has-Contains xs x h = has_at xs x h.0 h.1 h.2

pub Contains-has : (xs : List ℕ) (x : ℕ) → has xs x ≡ true → Contains xs x
Contains-has [] x h = absurd (false≢true h)
Contains-has (y ∷ ys) x h = ⊎_elim
    (λ (same : y ≡ x). (0, omega arith, same))
    (λ (ne : y ≡ x → ⊥).
    let rest : Contains ys x = Contains-has ys x (rw (ne_eqb y x ne) at h) in
    let within : rest.0 < length ys = rest.1 in
    (suc rest.0, omega arith, rest.2))
    (cases_eq y x)

-- a list to which a name was put has it, and each that it had
has_twice : (a b : Bool) → cond a true b ≡ cond a true (cond a true b)
has_twice true b = refl
has_twice false b = refl

has_either : (a b c : Bool) → cond a true (cond b true c) ≡ cond b true (cond a true c)
has_either true true c = refl
has_either true false c = refl
has_either false true c = refl
has_either false false c = refl

has-with : (k x : ℕ) (ns : List ℕ) → has (names_with k ns) x ≡ cond (eqb k x) true (has ns x)
has-with k x [] = refl
has-with k x (n ∷ ns) = ⊎_elim
    (λ (same : k ≡ n). rw (eq-eqb k n same) (subst (λ m. has (n ∷ ns) x ≡ cond (eqb m x) true (has (n ∷ ns) x)) (sym same) (has_twice (eqb n x) (has ns x))))
    (λ (ne : k ≡ n → ⊥). rw (ne_eqb k n ne) (by (nat_lt k n) (has-with k x ns)))
    (cases_eq k n)
  where
    by : (b : Bool) → has (names_with k ns) x ≡ cond (eqb k x) true (has ns x) → has (cond b (k ∷ n ∷ ns) (n ∷ names_with k ns)) x ≡ cond (eqb k x) true (has (n ∷ ns) x)
    by true rest = refl
    by false rest = ap (λ (b : Bool). cond (eqb n x) true b) rest ∙ has_either (eqb n x) (eqb k x) (has ns x)

-- one from which a name was taken hasn't it, and has each other that it had
has-without_same : (k : ℕ) (ns : List ℕ) → has (names_without k ns) k ≡ false
has-without_same k [] = refl
has-without_same k (n ∷ ns) = ⊎_elim
    (λ (same : n ≡ k). rw (eq-eqb n k same) (has-without_same k ns))
    (λ (ne : n ≡ k → ⊥). rw (ne_eqb n k ne, ne_eqb n k ne) (has-without_same k ns))
    (cases_eq n k)

has-without_other : (k x : ℕ) (ns : List ℕ) → k ≢ x → has (names_without k ns) x ≡ has ns x
has-without_other k x [] apart = refl
has-without_other k x (n ∷ ns) apart = ⊎_elim
    (λ (same : n ≡ k).
    let other : eqb n x ≡ false = ne_eqb n x (λ e. apart (sym same ∙ e)) in
    rw (eq-eqb n k same, other) (has-without_other k x ns apart))
    (λ (ne : n ≡ k → ⊥). rw (ne_eqb n k ne) (ap (λ (b : Bool). cond (eqb n x) true b) (has-without_other k x ns apart)))
    (cases_eq n k)

-- a list follows a name: it has it just if b, and each other as before
pub record Follows (ns new : List ℕ) (k : ℕ) (b : Bool) : Type 0 where
  pub same : has new k ≡ b
  pub other : (x : ℕ) → k ≢ x → has new x ≡ has ns x

pub follows-put : (ns new : List ℕ) (k : ℕ) (b : Bool) → (b ≡ true → new ≡ names_with k ns) → (b ≡ false → new ≡ names_without k ns) → Follows ns new k b
follows-put ns new k true listed gone = rw (listed refl) (record {
  same = has-with k k ns ∙ ap (λ b. cond b true (has ns k)) (eq-eqb k k refl);
  other = λ x apart. has-with k x ns ∙ ap (λ b. cond b true (has ns x)) (ne_eqb k x apart);
})
follows-put ns new k false listed gone = rw (gone refl) (record {
  same = has-without_same k ns;
  other = λ x apart. has-without_other k x ns apart;
})

-- the names that can be served are listed
abbrev pub IsListed : ℕ → List (ℕ × Part) → List ℕ → Type 0
IsListed me es ns = (x : ℕ) → Contains ns x ↔ (is_served_at me es x ≡ true)

-- a list that follows the change of a token lists them after it
pub listed_after : (me : ℕ) (es new : List (ℕ × Part)) (ns names : List ℕ) (k : ℕ) (w : Part) →
    IsListed me es ns → part_in new ≡ put (part_in es) k (Some w) → Follows ns names k (can_serve me w) → IsListed me new names
listed_after me es new ns names k w listed changed follows x = ⊎_elim
    (λ (same : k ≡ x).
    let served : is_served_at me new x ≡ can_serve me w =
    ap (λ o. option_map_or (can_serve me) o false) (ap (λ f. f x) changed ∙ ap (λ b. cond b (Some w) (part_in es x)) (eq-eqb k x same)) in
    let there : has names x ≡ can_serve me w = subst (λ y. has names y ≡ can_serve me w) same follows.same in
    (λ had. served ∙ sym there ∙ has-Contains names x had, λ can. Contains-has names x (there ∙ sym served ∙ can)))
    (λ (apart : k ≡ x → ⊥).
    let served : is_served_at me new x ≡ is_served_at me es x =
    ap (λ o. option_map_or (can_serve me) o false) (ap (λ f. f x) changed ∙ ap (λ b. cond b (Some w) (part_in es x)) (ne_eqb k x apart)) in
    let there : has names x ≡ has ns x = follows.other x apart in (
      λ had. served ∙ (listed x).0 (Contains-has ns x (sym there ∙ has-Contains names x had)),
      λ can. Contains-has names x (there ∙ has-Contains ns x ((listed x).1 (sym served ∙ can))),
    ))
    (cases_eq k x)

-- an empty queue isn't served
idle_by : (me : ℕ) (p : Part) → p.queue ≡ [] → can_serve me p ≡ false
idle_by me p empty = by p.role p.queue empty
  where
    by : (r : Role) (q : List _) → q ≡ [] → can_serve me (record p { role = r; queue = q }) ≡ false
    by Owner q e = rw e refl
    by (Parent parent) q e = refl

-- so a list needs no change where a name gets its first token
pub follows-first : (me : ℕ) (es : List (ℕ × Part)) (ns : List ℕ) (k : ℕ) (p : Part) →
    IsListed me es ns → part_in es k ≡ None → p.queue ≡ [] → Follows ns ns k (can_serve me p)
follows-first me es ns k p listed none empty = record {
  same =
      let unserved : is_served_at me es k ≡ false = ap (λ o. option_map_or (can_serve me) o false) none in
      ⊎_elim
      (λ (yes : has ns k ≡ true). absurd (false≢true (sym unserved ∙ (listed k).0 (Contains-has ns k yes))))
      (λ (no : has ns k ≡ false). no ∙ sym (idle_by me p empty))
      (cases_Bool (has ns k));
  other = λ x apart. refl;
}

-- a token is written and the index follows it
pub indexed : {S : Type 0} (me : ℕ) (m n : IndexMap ℕ Part S) (ns mid names : List ℕ) (k : ℕ) (p w : Part) (b : Bool) →
    IsListed me m.entries ns → Some p ≡ lookup (same_name k) m.entries → WritesThrough same_name (same_name k) m w n → mid ≡ ns →
    b ≡ can_serve me w → (b ≡ true → names ≡ names_with k mid) → (b ≡ false → names ≡ names_without k mid) → IsListed me n.entries names
indexed me m n ns mid names k p w b listed had wrote kept is with_it without_it =
    let follows : Follows mid names k (can_serve me w) = subst (Follows mid names k) is (follows-put mid names k b with_it without_it) in
    listed_after me m.entries n.entries ns names k w listed (written m n k p w had wrote) (subst (λ l. Follows l names k (can_serve me w)) kept follows)

-- neither changes
pub listed_still : (me : ℕ) (es new : List (ℕ × Part)) (ns names : List ℕ) → IsListed me es ns → new ≡ es → names ≡ ns → IsListed me new names
listed_still me es new ns names listed parts kept = subst (λ l. IsListed me l names) (sym parts) (subst (IsListed me es) (sym kept) listed)
