-- Files in a list: where a name stands, and what storing under it makes of them.
use Rattle.std.proofs.Common.{◌≡◌, ◌⊎◌, inl, inr, ℕ, zero, suc, ◌+◌, ◌<◌, Bool, true, false, cond, List, [], ◌∷◌, ◌++◌, length, get_or, set, Option, Some, None, refl, sym, ap, ◌∙◌, arith}
use Rattle.std.specs.Str.{bytes_eq}
use Rattle.std.specs.List.{position_from}
use Rattle.std.proofs.lemmas.Slice.Eq.{bytes_eq-Decides}
use Rattle.bmx_outside.specs.declared.mem_shelves.StoredFile.{StoredFile}
use Rattle.bmx_outside.specs.Shelves.{Stores, file_of}

-- the first file of a name is the k-th
abbrev pub IsFile : List StoredFile → List ℕ → ℕ → Type 0
IsFile [] name k = ⊥
IsFile (f ∷ fs) name zero = bytes_eq f.name name ≡ true
IsFile (f ∷ fs) name (suc k) = (bytes_eq f.name name ≡ false) × IsFile fs name k

told : (b : Bool) → (b ≡ true) ⊎ (b ≡ false)
told true = inl refl
told false = inr refl

either : {A : Type 0} (b : Bool) → (b ≡ true → A) → (b ≡ false → A) → A
either b holds fails = elim (told b) [ inl h ↦ holds h | inr h ↦ fails h ]

same : (a b : List ℕ) → bytes_eq a b ≡ true → a ≡ b
same a b h = (bytes_eq-Decides a b).0 h

apart : (a b : List ℕ) → (a ≡ b → ⊥) → bytes_eq a b ≡ false
apart a b ne = either (bytes_eq a b) (λ h. absurd (ne (same a b h))) (λ h. h)

pub found_from : (fs : List StoredFile) (name : List ℕ) (j i : ℕ) → position_from (λ f. bytes_eq f.name name) j fs ≡ Some i → (k : ℕ) × (i ≡ j + k) × IsFile fs name k
found_from [] name j i h = absurd cc
found_from (f ∷ fs) name j i h =
    either (bytes_eq f.name name)
    (λ holds. let e : Some j ≡ Some i = sym (ap (λ (b : Bool). cond b (Some j) (position_from (λ f. bytes_eq f.name name) (j + 1) fs)) holds) ∙ h in let s : j ≡ i = cc in (0, omega arith, holds))
    (λ fails.
    let e = sym (ap (λ (b : Bool). cond b (Some j) (position_from (λ f. bytes_eq f.name name) (j + 1) fs)) fails) ∙ h in
    let rest = found_from fs name (j + 1) i e in
    (suc rest.0, omega (arith, rest.1), (fails, rest.2)))

pub none_from : (fs : List StoredFile) (name : List ℕ) (j : ℕ) → position_from (λ f. bytes_eq f.name name) j fs ≡ None → file_of fs name ≡ None
none_from [] name j h = refl
none_from (f ∷ fs) name j h =
    either (bytes_eq f.name name)
    (λ holds. let e : Some j ≡ None = sym (ap (λ (b : Bool). cond b (Some j) (position_from (λ f. bytes_eq f.name name) (j + 1) fs)) holds) ∙ h in absurd cc)
    (λ fails.
    let e = sym (ap (λ (b : Bool). cond b (Some j) (position_from (λ f. bytes_eq f.name name) (j + 1) fs)) fails) ∙ h in
    rw fails (none_from fs name (j + 1) e))

pub found : (fs : List StoredFile) (name : List ℕ) (k : ℕ) (d : StoredFile) → IsFile fs name k → (k < length fs) × (file_of fs name ≡ Some (get_or fs k d).bytes)
found [] name k d h = absurd h
found (f ∷ fs) name zero d h = (omega arith, rw h refl)
found (f ∷ fs) name (suc k) d h = let rest = found fs name k d h.1 in (omega (arith, rest.0), rw h.0 rest.1)

-- bytes in the place of what the name had
pub stored_at : (fs : List StoredFile) (name bytes : List ℕ) (k : ℕ) (g d : StoredFile) → IsFile fs name k → g.name ≡ (get_or fs k d).name → g.bytes ≡ bytes
    → Stores name bytes (file_of fs) (file_of (set fs k g))
stored_at [] name bytes k g d h n b = absurd h
stored_at (f ∷ fs) name bytes zero g d h n b =
    let here : bytes_eq g.name name ≡ true = ap (λ (x : List ℕ). bytes_eq x name) n ∙ h in (
      rw here (ap Some b),
      λ other ne.
          let f_other : bytes_eq f.name other ≡ false = apart f.name other (λ e. ne (sym e ∙ same f.name name h)) in
          let g_other : bytes_eq g.name other ≡ false = ap (λ (x : List ℕ). bytes_eq x other) n ∙ f_other in
          rw (f_other, g_other) refl,
    )
stored_at (f ∷ fs) name bytes (suc k) g d h n b =
    let rest = stored_at fs name bytes k g d h.1 n b in
    (rw h.0 rest.0, λ other ne. ap (λ (o : Option (List ℕ)). cond (bytes_eq f.name other) (Some f.bytes) o) (rest.1 other ne))

-- bytes under a name that had none
pub stored_last : (fs : List StoredFile) (name bytes : List ℕ) (g : StoredFile) → file_of fs name ≡ None → g.name ≡ name → g.bytes ≡ bytes
    → Stores name bytes (file_of fs) (file_of (fs ++ g ∷ []))
stored_last [] name bytes g none n b =
    let here : bytes_eq g.name name ≡ true = (bytes_eq-Decides g.name name).1 n in
    (rw here (ap Some b), λ other ne. let away : bytes_eq g.name other ≡ false = apart g.name other (λ e. ne (sym e ∙ n)) in rw away refl)
stored_last (f ∷ fs) name bytes g none n b =
    let away : bytes_eq f.name name ≡ false = either (bytes_eq f.name name)
    (λ holds. let e : Some f.bytes ≡ None = sym (ap (λ (t : Bool). cond t (Some f.bytes) (file_of fs name)) holds) ∙ none in absurd cc)
    (λ fails. fails) in
    let past : file_of fs name ≡ None = sym (ap (λ (t : Bool). cond t (Some f.bytes) (file_of fs name)) away) ∙ none in
    let rest = stored_last fs name bytes g past n b in
    (rw away rest.0, λ other ne. ap (λ (o : Option (List ℕ)). cond (bytes_eq f.name other) (Some f.bytes) o) (rest.1 other ne))
