-- Names with keys: which names are marked, and their keys.
use Rattle.std.proofs.Common.{◌≡◌, ℕ, Bool, true, false, cond, ◌||◌, ◌==◌, eqb, List, [], ◌∷◌, ◌++◌, take, drop, Option, Some, None, is_some, refl, sym, ap, ◌∙◌}
use Rattle.std.proofs.lemmas.List.{map-append, take-append-drop}
use Rattle.std.specs.Map.{lookup}
use Rattle.bmx_ilist.proofs.Keys.{has_key-append, eqb_swap}
use Rattle.bmx_mark.specs.Marks.{Marking, names_in, keys_in, has_name, is_marked, key_in}

pub names-append : (xs ys : List (ℕ × ℕ)) → names_in (xs ++ ys) ≡ names_in xs ++ names_in ys
names-append xs ys = map-append (λ (e : ℕ × ℕ). e.0) xs ys

pub keys-append : (xs ys : List (ℕ × ℕ)) → keys_in (xs ++ ys) ≡ keys_in xs ++ keys_in ys
keys-append xs ys = map-append (λ (e : ℕ × ℕ). e.1) xs ys

pub has-append : (xs ys : List (ℕ × ℕ)) (q : ℕ) → has_name (names_in (xs ++ ys)) q ≡ (has_name (names_in xs) q || has_name (names_in ys) q)
has-append xs ys q = ap (λ l. has_name l q) (names-append xs ys) ∙ has_key-append q (names_in xs) (names_in ys)

-- a list cut in two has the names and the keys of both parts
pub parted : (n : ℕ) (es : List (ℕ × ℕ)) (q : ℕ) → (has_name (names_in (take n es)) q || has_name (names_in (drop n es)) q) ≡ has_name (names_in es) q
parted n es q = sym (has-append (take n es) (drop n es) q) ∙ ap (λ l. has_name (names_in l) q) (take-append-drop n es)

-- two names are the same, as the keys of a map are compared
abbrev pub same_name : ℕ → ℕ → Bool
same_name x y = eqb x y

pub key_in-lookup : (es : List (ℕ × ℕ)) (q : ℕ) → lookup (same_name q) es ≡ key_in es q
key_in-lookup [] q = refl
key_in-lookup (e ∷ es) q = ap (λ (o : Option ℕ). cond (eqb q e.0) (Some e.1) o) (key_in-lookup es q)

-- a name has a key where it is among them
pub key_in-some : (es : List (ℕ × ℕ)) (q : ℕ) → is_some (key_in es q) ≡ has_name (names_in es) q
key_in-some [] q = refl
key_in-some (e ∷ es) q =
    first (q == e.0) e.1 (key_in es q) (has_name (names_in es) q) (key_in-some es q) ∙ ap (λ b. b || has_name (names_in es) q) (eqb_swap q e.0)
  where
    first : (b : Bool) (k : ℕ) (o : Option ℕ) (h : Bool) → is_some o ≡ h → is_some (cond b (Some k) o) ≡ (b || h)
    first true k o h e = refl
    first false k o h e = e

pub found : (es : List (ℕ × ℕ)) (q : ℕ) → is_some (lookup (same_name q) es) ≡ has_name (names_in es) q
found es q = ap is_some (key_in-lookup es q) ∙ key_in-some es q

pub not_found : (es : List (ℕ × ℕ)) (q : ℕ) → has_name (names_in es) q ≡ false → lookup (same_name q) es ≡ None
not_found es q h = none (lookup (same_name q) es) (found es q ∙ h)
  where
    none : (o : Option ℕ) → is_some o ≡ false → o ≡ None
    none None e = refl
    none (Some k) e = absurd (let f : true ≡ false = e in cc)

-- what a look-up answers, for the marking that a mark is seen as
pub marked-is : (m : Marking) (es : List (ℕ × ℕ)) (n p q : ℕ) → record { grey = drop n es; scanned = take n es; spare = p } ≡ m → is_some (lookup (same_name q) es) ≡ is_marked m q
marked-is m es n p q view = found es q ∙ sym (parted n es q) ∙ ap (λ (v : Marking). is_marked v q) view
