-- What changes do to what a node has of one object: nothing but what is known or heard of it counts.
use Rattle.std.proofs.Common.{◌≡◌, ℕ, refl, ap, sym, subst, ◌∙◌, Bool, true, false, cond, List, [], ◌∷◌, ◌++◌, map}
use Rattle.std.specs.Prelude.{◌==◌, ◌≢◌, ◌||◌, Option, Some, None, is_some}
use Rattle.std.specs.List.{list_any}
use Rattle.bmx_types.specs.declared.addresses.Info.{Info}
use Rattle.bmx_types.specs.Updates.{put}
use Rattle.bmx_token.specs.Transitions.{Share, heard_share}
use Rattle.bmx_token_model.specs.Machine.{hears}
use Rattle.bmx_protocol.specs.Nodes.{NodeState, Known, share_of}
use Rattle.bmx_protocol.specs.Changes.{Change, Sets, Makes, Knows, Hears, Gives, Gets, Issues, Takes, heard_of, heard, after_change, after_changes}
use Rattle.bmx_protocol.proofs.Changing.{Each}
use Rattle.bmx_store_laws.specs.Inside.Seen.{seen_known}
use Rattle.bmx_protocol.proofs.Basics.{eqb_of, Two, Same, Apart, two}

-- what a node has of x after a change
abbrev pub share_after : ℕ → Option Share → Change → Option Share
share_after x h (Sets register v) = h
share_after x h Makes = h
share_after x h (Knows name k) = cond (name == x) (Some (share_of k)) h
share_after x h (Hears from info) = hears (info.name == x) from h
share_after x h (Gives name to seq) = h
share_after x h (Gets name from seq) = h
share_after x h (Issues to) = h
share_after x h (Takes from) = h

abbrev pub shares_after : ℕ → Option Share → List Change → Option Share
shares_after x h [] = h
shares_after x h (c ∷ changes) = shares_after x (share_after x h c) changes

known_put : (x name : ℕ) (known : ℕ → Option Known) (k : Known) → seen_known (put known name (Some k) x) ≡ cond (name == x) (Some (share_of k)) (seen_known (known x))
known_put x name known k = by_test (name == x)
  where
    by_test : (b : Bool) → seen_known (cond b (Some k) (known x)) ≡ cond b (Some (share_of k)) (seen_known (known x))
    by_test true = refl
    by_test false = refl

known_heard : (x from : ℕ) (known : ℕ → Option Known) (info : Info) → seen_known (heard from known info x) ≡ hears (info.name == x) from (seen_known (known x))
known_heard x from known info = by_known (known info.name) refl
  where
    kept : (h : Option Share) (b : Bool) → (b ≡ true → is_some h ≡ true) → h ≡ hears b from h
    kept None true q = (let both : false ≡ true = q refl in absurd cc)
    kept None false q = refl
    kept (Some h) true q = refl
    kept (Some h) false q = refl

    new : (h : Option Share) (b : Bool) → (b ≡ true → h ≡ None) → cond b (Some (heard_share from)) h ≡ hears b from h
    new None true q = refl
    new None false q = refl
    new (Some h) true q = (let both : Some h ≡ None = q refl in absurd cc)
    new (Some h) false q = refl

    named : (info.name == x) ≡ true → info.name ≡ x
    named h = by_two (two info.name x) h
      where
        by_two : Two info.name x → (info.name == x) ≡ true → info.name ≡ x
        by_two (Same e) h = e
        by_two (Apart f d) h = (let both : false ≡ true = sym f ∙ h in absurd cc)

    by_known : (k : Option Known) → known info.name ≡ k →
        seen_known (cond (is_some k) known (put known info.name (Some (heard_of from info))) x) ≡ hears (info.name == x) from (seen_known (known x))
    by_known (Some k) is = kept (seen_known (known x)) (info.name == x)
        (λ b. subst (λ (y : ℕ). is_some (seen_known (known y)) ≡ true) (named b) (ap (λ (j : Option Known). is_some (seen_known j)) is))
    by_known None is = known_put x info.name known (heard_of from info) ∙ new (seen_known (known x)) (info.name == x)
        (λ b. subst (λ (y : ℕ). seen_known (known y) ≡ None) (named b) (ap (λ (j : Option Known). seen_known j) is))

pub share_changed : (x : ℕ) (s : NodeState) (c : Change) → seen_known ((after_change s c).known x) ≡ share_after x (seen_known (s.known x)) c
share_changed x s (Sets register v) = refl
share_changed x s Makes = refl
share_changed x s (Knows name k) = known_put x name s.known k
share_changed x s (Hears from info) = known_heard x from s.known info
share_changed x s (Gives name to seq) = refl
share_changed x s (Gets name from seq) = refl
share_changed x s (Issues to) = refl
share_changed x s (Takes from) = refl

pub shares_changed : (x : ℕ) (changes : List Change) (s : NodeState) → seen_known ((after_changes s changes).known x) ≡ shares_after x (seen_known (s.known x)) changes
shares_changed x [] s = refl
shares_changed x (c ∷ changes) s = shares_changed x changes (after_change s c) ∙ ap (λ (h : Option Share). shares_after x h changes) (share_changed x s c)

pub shares_append : (x : ℕ) (h : Option Share) (a b : List Change) → shares_after x h (a ++ b) ≡ shares_after x (shares_after x h a) b
shares_append x h [] b = refl
shares_append x h (c ∷ a) b = shares_append x (share_after x h c) a b

-- ## entries stay

-- a change doesn't make x known
abbrev pub Spares : ℕ → Change → Type 0
Spares x (Sets register v) = Unit {0}
Spares x Makes = Unit {0}
Spares x (Knows name k) = name ≢ x
Spares x (Hears from info) = info.name ≢ x
Spares x (Gives name to seq) = Unit {0}
Spares x (Gets name from seq) = Unit {0}
Spares x (Issues to) = Unit {0}
Spares x (Takes from) = Unit {0}

-- where x is unknown after a change, it was before, and the change spares it
spared : (x : ℕ) (h : Option Share) (c : Change) → share_after x h c ≡ None → (h ≡ None) × Spares x c
spared x h (Sets register v) none = (none, tt)
spared x h Makes none = (none, tt)
spared x h (Knows name k) none = by_two (two name x)
  where
    by_two : Two name x → (h ≡ None) × (name ≢ x)
    by_two (Same e) = (let both : Some (share_of k) ≡ None = (λ i. cond (sym (eqb_of e) i) (Some (share_of k)) h) ∙ none in absurd cc)
    by_two (Apart f d) = ((λ i. cond (sym f i) (Some (share_of k)) h) ∙ none, d)
spared x h (Hears from info) none = by_two (two info.name x)
  where
    heard_some : (h : Option Share) → hears true from h ≡ None → ⊥
    heard_some None e = cc
    heard_some (Some h) e = cc

    by_two : Two info.name x → (h ≡ None) × (info.name ≢ x)
    by_two (Same e) = absurd (heard_some h ((λ i. hears (sym (eqb_of e) i) from h) ∙ none))
    by_two (Apart f d) = ((λ i. hears (sym f i) from h) ∙ none, d)
spared x h (Gives name to seq) none = (none, tt)
spared x h (Gets name from seq) none = (none, tt)
spared x h (Issues to) none = (none, tt)
spared x h (Takes from) none = (none, tt)

pub all_spared : (x : ℕ) (changes : List Change) (h : Option Share) → shares_after x h changes ≡ None → (h ≡ None) × Each (Spares x) changes
all_spared x [] h none = (none, tt)
all_spared x (c ∷ changes) h none =
    let rest : (share_after x h c ≡ None) × Each (Spares x) changes = all_spared x changes (share_after x h c) none in
    let here : (h ≡ None) × Spares x c = spared x h c rest.0 in
    (here.0, (here.1, rest.1))

-- hearing of objects is hearing of x, if it is among them
pub heard_all : (x from : ℕ) (more : List Info) (h : Option Share) →
    shares_after x h (map (Hears from) more) ≡ hears (list_any (λ (i : Info). i.name == x) more) from h
heard_all x from [] h = refl
heard_all x from (info ∷ more) h = heard_all x from more (hears (info.name == x) from h) ∙ twice (info.name == x) (list_any (λ (i : Info). i.name == x) more) h
  where
    twice : (a b : Bool) (h : Option Share) → hears b from (hears a from h) ≡ hears (a || b) from h
    twice true true None = refl
    twice true true (Some h) = refl
    twice true false h = refl
    twice false b h = refl
