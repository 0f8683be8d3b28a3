-- What one changed lane does to the lanes, and to how many nodes have something on its way.
use Rattle.std.proofs.Common.{◌≡◌, ℕ, zero, suc, ◌+◌, ◌<◌, ◌≤◌, eqb, true, false, List, [], ◌∷◌, ◌++◌, length, map, get_or, set, replicate, refl, sym, ap, subst, ◌∙◌, ⊎_elim, arith, Result, Ok, Err, OnOk, OnErr}
use Rattle.std.proofs.Math.Path.{fun_ext}
use Rattle.std.proofs.lemmas.Bool.{cases_eq, eqb-true, false≢true, eq-eqb, ne_eqb, cond-true, cond-false}
use Rattle.std.proofs.lemmas.List.{map-set, length-map, length-set, get_or-set_same, get_or-set_other, get_or_read}
use Rattle.bmx_types.specs.Updates.{put, put_at}
use Rattle.bmx_lanes.specs.Sending.{lane_from, lane_of, one_if_any, senders_below}
use Rattle.bmx_lanes.specs.Inside.Counts.{Counts}

-- ## updates

pub put-same : {A : Type 0} (f : ℕ → A) (k : ℕ) (v : A) → put f k v k ≡ v
put-same f k v = cond-true (eqb k k) v (f k) (eq-eqb k k refl)

pub put-other : {A : Type 0} (f : ℕ → A) (k : ℕ) (v : A) (m : ℕ) → (k ≡ m → ⊥) → put f k v m ≡ f m
put-other f k v m ne = cond-false (eqb k m) v (f m) (ne_eqb k m ne)

-- one pair changes: what it does to its own column, and beside it
pub put_at-column : {A : Type 0} (f : ℕ → ℕ → A) (n k : ℕ) (v : A) (m : ℕ) → put_at f n k v m k ≡ put (λ j. f j k) n v m
put_at-column f n k v m =
    ⊎_elim
    (λ (e : n ≡ m). ap (λ i. put_at f n k v i k) (sym e) ∙ ap (λ g. g k) (put-same f n (put (f n) k v)) ∙ put-same (f n) k v ∙ sym (ap (put (λ j. f j k) n v) (sym e) ∙ put-same (λ j. f j k) n v))
    (λ (ne : n ≡ m → ⊥). ap (λ g. g k) (put-other f n (put (f n) k v) m ne) ∙ sym (put-other (λ j. f j k) n v m ne))
    (cases_eq n m)

pub put_at-beside : {A : Type 0} (f : ℕ → ℕ → A) (n k : ℕ) (v : A) (m j : ℕ) → (k ≡ j → ⊥) → put_at f n k v m j ≡ f m j
put_at-beside f n k v m j beside =
    ⊎_elim
    (λ (e : n ≡ m). ap (λ i. put_at f n k v i j) (sym e) ∙ ap (λ g. g j) (put-same f n (put (f n) k v)) ∙ put-other (f n) k v j beside ∙ ap (λ i. f i j) e)
    (λ (ne : n ≡ m → ⊥). ap (λ g. g j) (put-other f n (put (f n) k v) m ne))
    (cases_eq n m)

-- one item of a list changes
pub get_or-set : {A : Type 0} (xs : List A) (k : ℕ) (v d : A) → k < length xs → (λ m. get_or (set xs k v) m d) ≡ put (λ m. get_or xs m d) k v
get_or-set xs k v d there = fun_ext (λ m.
    ⊎_elim
    (λ (e : k ≡ m). ap (λ j. get_or (set xs k v) j d) (sym e) ∙ get_or-set_same xs k v d there ∙ sym (cond-true (eqb k m) v (get_or xs m d) (eq-eqb k m e)))
    (λ (ne : k ≡ m → ⊥). get_or-set_other xs k m v d (λ e. ne (sym e)) ∙ sym (put-other (λ j. get_or xs j d) k v m ne))
    (cases_eq k m))

-- one lane changes, among those to one node
pub lane_from-set : {A : Type 0} (lanes : List (List A)) (from : ℕ) (lane : List A) → from < length lanes → lane_from (set lanes from lane) ≡ put (lane_from lanes) from lane
lane_from-set lanes from lane there = get_or-set lanes from lane [] there

-- ## how many send

pub senders-same : {A : Type 0} (f g : ℕ → List A) (n : ℕ) → ((m : ℕ) → m < n → f m ≡ g m) → senders_below f n ≡ senders_below g n
senders-same f g zero h = refl
senders-same f g (suc n) h = grind (arith, senders-same f g n (λ m l. h m (omega (arith, l))), ap one_if_any (h n (omega arith)))

-- lanes of other items that are as long have as many senders
pub senders-alike : {A B : Type 0} (f : ℕ → List A) (g : ℕ → List B) (n : ℕ) → ((m : ℕ) → m < n → length (f m) ≡ length (g m)) → senders_below f n ≡ senders_below g n
senders-alike f g zero h = refl
senders-alike f g (suc n) h = omega (arith, senders-alike f g n (λ m l. h m (omega (arith, l))), as_any (f n) (g n) (h n (omega arith)))
  where
    as_any : {A B : Type 0} (xs : List A) (ys : List B) → length xs ≡ length ys → one_if_any xs ≡ one_if_any ys
    as_any [] [] e = refl
    as_any [] (y ∷ ys) e = absurd (omega (arith, e))
    as_any (x ∷ xs) [] e = absurd (omega (arith, e))
    as_any (x ∷ xs) (y ∷ ys) e = refl

-- nodes from which nothing is on its way add no sender
pub senders-up_to : {A : Type 0} (f : ℕ → List A) (n m : ℕ) → n ≤ m → ((k : ℕ) → n ≤ k → k < m → f k ≡ []) → senders_below f m ≡ senders_below f n
senders-up_to f n zero within none = let e : 0 ≡ n = omega (arith, within) in ap (senders_below f) e
senders-up_to f n (suc m) within none =
    ⊎_elim
    (λ (e : n ≡ suc m). ap (senders_below f) (sym e))
    (λ (ne : n ≡ suc m → ⊥). omega (arith, senders-up_to f n m (omega (arith, ne, within)) (λ k from l. none k from (omega (arith, l))), ap one_if_any (none m (omega (arith, ne, within)) (omega arith))))
    (cases_eq n (suc m))

-- one lane changes below so many: its sender counts anew
pub senders-put : {A : Type 0} (f : ℕ → List A) (k : ℕ) (v : List A) (n : ℕ) → k < n → senders_below (put f k v) n + one_if_any (f k) ≡ senders_below f n + one_if_any v
senders-put f k v zero there = omega (arith, there)
senders-put f k v (suc n) there =
    ⊎_elim
    (λ (e : k ≡ n). omega (arith, senders-same (put f k v) f n (λ m l. put-other f k v m (omega (arith, e, l))), ap one_if_any (ap (put f k v) (sym e) ∙ put-same f k v), ap (λ j. one_if_any (f j)) e))
    (λ (ne : k ≡ n → ⊥). omega (arith, senders-put f k v n (omega (arith, ne, there)), ap one_if_any (put-other f k v n ne)))
    (cases_eq k n)

pub none_where_empty : {A : Type 0} (xs : List A) (n : ℕ) → n ≡ length xs → true ≡ eqb n 0 → one_if_any xs ≡ 0
none_where_empty [] n e h = refl
none_where_empty (x ∷ xs) n e h = omega (arith, e, eqb-true n 0 (sym h))

pub one_where_any : {A : Type 0} (xs : List A) (n : ℕ) → n ≡ length xs → false ≡ eqb n 0 → one_if_any xs ≡ 1
one_where_any [] n e h = absurd (false≢true (h ∙ eq-eqb n 0 e))
one_where_any (x ∷ xs) n e h = refl

pub one_after_push : {A : Type 0} (xs : List A) (x : A) → one_if_any (xs ++ x ∷ []) ≡ 1
one_after_push [] x = refl
one_after_push (y ∷ xs) x = refl

-- one sender at most for each node
pub senders_most : {A : Type 0} (f : ℕ → List A) (n : ℕ) → senders_below f n ≤ n
senders_most f zero = omega arith
senders_most f (suc n) = omega (arith, senders_most f n, at_most_one (f n))
  where
    at_most_one : {A : Type 0} (xs : List A) → one_if_any xs ≤ 1
    at_most_one [] = omega arith
    at_most_one (x ∷ xs) = omega arith

-- a lane with something has a sender
pub sends_one : {A : Type 0} (f : ℕ → List A) (k n : ℕ) → k < n → one_if_any (f k) ≤ senders_below f n
sends_one f k n there = omega (arith, senders-put f k [] n there)

-- ## queues of an inbox, by their items

module _ {A Q : Type 0} (items : Q → List A) where
  pub lane_at : (queues : List Q) (k : ℕ) (q : Q) → k < length queues → q ≡ get_or queues k q → lane_from (map items queues) k ≡ items q
  lane_at (x ∷ queues) zero q there read = ap items (sym read)
  lane_at (x ∷ queues) (suc k) q there read = lane_at queues k q (omega (arith, there)) read
  lane_at [] k q there read = absurd (omega (arith, there))

  pub lanes_set : (queues : List Q) (k : ℕ) (q : Q) → k < length queues → lane_from (map items (set queues k q)) ≡ put (lane_from (map items queues)) k (items q)
  lanes_set queues k q there = ap lane_from (map-set items queues k q) ∙ lane_from-set (map items queues) k (items q) (subst (λ n. k < n) (sym (length-map queues items)) there)

  -- a queue with the same items
  pub lanes_kept : (queues : List Q) (k : ℕ) (old new : Q) → k < length queues → old ≡ get_or queues k old → items new ≡ items old → map items (set queues k new) ≡ map items queues
  lanes_kept (x ∷ queues) zero old new there read e = ap (λ i. i ∷ map items queues) (e ∙ ap items read)
  lanes_kept (x ∷ queues) (suc k) old new there read e = ap (λ l. items x ∷ l) (lanes_kept queues k old new (omega (arith, there)) read e)
  lanes_kept [] k old new there read e = refl

  -- a queue changes, and the count with it
  pub recounted : (queues : List Q) (k : ℕ) (old new : Q) (senders senders' : ℕ)
      → (length queues ≡ 8) × Counts (map items queues) senders → k < 8 → old ≡ get_or queues k old
      → senders' + one_if_any (items old) ≡ senders + one_if_any (items new)
      → (length (set queues k new) ≡ 8) × Counts (map items (set queues k new)) senders'
  recounted queues k old new senders senders' inbox there read e =
      let here : k < length queues = subst (λ n. k < n) (sym inbox.0) there in
      let change : senders_below (put (lane_from (map items queues)) k (items new)) 8 + one_if_any (items old) ≡ senders_below (lane_from (map items queues)) 8 + one_if_any (items new)
      = ap (λ l. senders_below (put (lane_from (map items queues)) k (items new)) 8 + one_if_any l) (sym (lane_at queues k old here read)) ∙ senders-put (lane_from (map items queues)) k (items new) 8 there in
      (length-set queues k new ∙ inbox.0, record { counted = counted_again _ _ _ senders senders' (one_if_any (items old)) (one_if_any (items new)) inbox.1.counted change e (ap (λ f. senders_below f 8) (lanes_set queues k new here)) })
    where
      counted_again : (below after_put after senders senders' o n : ℕ) → senders ≡ below → after_put + o ≡ below + n → senders' + o ≡ senders + n → after ≡ after_put → senders' ≡ after
      counted_again below after_put after senders senders' o n h change e s = omega (arith, h, change, e, s)

  -- the changed inbox, as its lanes tell
  pub becomes : (queues : List Q) (k from : ℕ) (old new : Q) (change : List A → List A)
      → length queues ≡ 8 → k < 8 → k ≡ from → old ≡ get_or queues k old → items new ≡ change (items old)
      → lane_from (map items (set queues k new)) ≡ put (lane_from (map items queues)) from (change (lane_from (map items queues) from))
  becomes queues k from old new change eight there is read e =
      let here : k < length queues = subst (λ n. k < n) (sym eight) there in
      lanes_set queues k new here
      ∙ ap (put (lane_from (map items queues)) k) (e ∙ ap change (sym (lane_at queues k old here read)))
      ∙ ap (λ j. put (lane_from (map items queues)) j (change (lane_from (map items queues) j))) is

  -- a queue that has something leaves a sender to count
  pub one_sends : (queues : List Q) (k : ℕ) (old : Q) (senders : ℕ) → (length queues ≡ 8) × Counts (map items queues) senders → k < 8 → old ≡ get_or queues k old → one_if_any (items old) ≡ 1 → 1 ≤ senders
  one_sends queues k old senders inbox there read one =
      rw inbox.1.counted (subst (λ n. n ≤ senders_below (lane_from (map items queues)) 8) (ap one_if_any (lane_at queues k old (subst (λ n. k < n) (sym inbox.0) there) read) ∙ one) (sends_one (lane_from (map items queues)) k 8 there))

-- ## all inboxes

-- empty lanes: nothing is on its way
pub none_from : {A : Type 0} (n from : ℕ) → lane_from {A = A} (replicate n []) from ≡ []
none_from zero from = refl
none_from (suc n) zero = refl
none_from (suc n) (suc from) = none_from n from

pub none_of : {A : Type 0} (n m from to : ℕ) → lane_of {A = A} (replicate n (replicate m [])) from to ≡ []
none_of zero m from to = refl
none_of (suc n) m from zero = none_from m from
none_of (suc n) m from (suc to) = none_of n m from to

pub nothing_sent : {A : Type 0} (n m : ℕ) → lane_of {A = A} (replicate n (replicate m [])) ≡ (λ _ _. [])
nothing_sent n m = fun_ext (λ from. fun_ext (λ to. none_of n m from to))

-- an inbox changes in one lane
pub inbox_set : {A : Type 0} (inboxes : List (List (List A))) (k from to : ℕ) (old new : List (List A)) (change : List A → List A)
    → length inboxes ≡ 8 → k < 8 → k ≡ to → old ≡ get_or inboxes k old → lane_from new ≡ put (lane_from old) from (change (lane_from old from))
    → lane_of (set inboxes k new) ≡ put_at (lane_of inboxes) from to (change (lane_of inboxes from to))
inbox_set inboxes k from to old new change eight small is read e =
    subst (λ j. lane_of (set inboxes k new) ≡ put_at (lane_of inboxes) from j (change (lane_of inboxes from j))) is (fun_ext (λ f. fun_ext (λ t. at f t)))
  where
    there : k < length inboxes
    there = subst (λ n. k < n) (sym eight) small

    found : old ≡ get_or inboxes k []
    found = get_or_read inboxes k old there read []

    changed : lane_from new ≡ put (λ f. lane_of inboxes f k) from (change (lane_of inboxes from k))
    changed = subst (λ b. lane_from new ≡ put (lane_from b) from (change (lane_from b from))) found e

    at : (f t : ℕ) → lane_of (set inboxes k new) f t ≡ put_at (lane_of inboxes) from k (change (lane_of inboxes from k)) f t
    at f t =
        ⊎_elim
        (λ (same : k ≡ t). ap (λ j. lane_of (set inboxes k new) f j) (sym same) ∙ ap (λ b. lane_from b f) (get_or-set_same inboxes k new [] there) ∙ ap (λ g. g f) changed
        ∙ sym (put_at-column (lane_of inboxes) from k (change (lane_of inboxes from k)) f) ∙ ap (put_at (lane_of inboxes) from k (change (lane_of inboxes from k)) f) same)
        (λ (ne : k ≡ t → ⊥). ap (λ b. lane_from b f) (get_or-set_other inboxes k t new [] (λ e. ne (sym e))) ∙ sym (put_at-beside (lane_of inboxes) from k (change (lane_of inboxes from k)) f t ne))
        (cases_eq k t)

pub OnOk-map : {T E P Q : Type 0} (r : Result T E) → (P → Q) → OnOk r P → OnOk r Q
OnOk-map (Ok x) f h = f h
OnOk-map (Err e) f h = tt

pub OnErr-from : {T E P : Type 0} (r : Result T E) → P → OnErr r P
OnErr-from (Ok x) h = tt
OnErr-from (Err e) h = h
