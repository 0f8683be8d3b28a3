-- What the model's laws say of a store: each name has one seat and one owner, and a write excludes.
use Rattle.std.proofs.Common.{◌≡◌, inl, inr, ℕ, ◌+◌, ◌<◌, ◌≤◌, arith, refl, ap, sym, ◌∙◌, Bool, true, false, cond, List, [], ◌∷◌, ◌++◌, map, suc}
use Rattle.std.specs.Prelude.{◌==◌, ◌||◌, ◌&&◌, ◌⊎◌, Option, Some, None, is_some, Contains}
use Rattle.std.specs.Option.{option_map_or}
use Rattle.std.proofs.lemmas.List.{map-append}
use Rattle.std.proofs.lemmas.List.Sums.{sum_by-cons}
use Rattle.bmx_types.specs.declared.addresses.Info.{Info}
use Rattle.bmx_msg.specs.declared.letters.Field.{Field}
use Rattle.bmx_msg.specs.declared.letters.Letter.{Letter}
use Rattle.bmx_msg.specs.declared.letters.Msg.{Msg}
use Rattle.bmx_msg.specs.declared.letters.Msg.TheVariants as msg
use Rattle.bmx_msg.specs.Letters.{targets}
use Rattle.bmx_token.specs.declared.parts.Role.{Role}
use Rattle.bmx_token.specs.declared.parts.Role.TheVariants as role
use Rattle.bmx_token.specs.Transitions.{Note}
use Rattle.bmx_protocol.specs.Nodes.{Setting, Known, share_of}
use Rattle.bmx_protocol.specs.Worlds.{World, HasOwned, IsMoving, Owns, Has, Gets, names_in, IsSomewhere, At, Between, HasOneOwner, EachHasOneOwner, WritesExclude}
use Rattle.bmx_token_model.specs.Machine.{Message, IsSilent, IsNowhere, is_handover, brings}
use Rattle.bmx_token_model.specs.Laws.{is_owner, owned_at, handovers_in, Seat, IsOwned, HasOneSeat, WriteExcludes}
use Rattle.bmx_token_model.specs.Laws as model
use Rattle.bmx_token_model.proofs.Readers.{one_or_more}
use Rattle.bmx_store_laws.specs.Inside.Seen.{has_name, seen_note, tells_of, seen, seen_message, seen_known}
use Rattle.bmx_store_laws.specs.Laws.{is_handover_of, handovers_of, IsSeated}
use Rattle.bmx_store_laws.specs.Laws as seated
use Rattle.bmx_protocol.proofs.Basics.{eqb_of, eqb_is, eqb_same, eqb_apart, Two, Same, Apart, two}

abbrev pub one_if : Bool → ℕ
one_if b = cond b 1 0

-- ## where a name stands

-- what a list has stands between others
pub split_at : {A : Type 0} (xs : List A) (x : A) → Contains xs x → (before : List A) × (after : List A) × (xs ≡ before ++ x ∷ after)
split_at [] x c = absurd (omega (arith, c.1))
split_at (y ∷ xs) x c = by_place (one_or_more y xs x c) (split_at xs x)
  where
    by_place : (y ≡ x) ⊎ Contains xs x → (Contains xs x → (before : List _) × (after : List _) × (xs ≡ before ++ x ∷ after)) →
        (before : List _) × (after : List _) × (y ∷ xs ≡ before ++ x ∷ after)
    by_place (inl here) rest = ([], xs, ap (λ z. z ∷ xs) here)
    by_place (inr there) rest = (y ∷ (rest there).0, (rest there).1, ap (λ l. y ∷ l) (rest there).2)

-- a message that says nothing of x doesn't name it
none_among : (x : ℕ) (names : List ℕ) → has_name x names ≡ false → Contains names x → ⊥
none_among x [] h c = absurd (omega (arith, c.1))
none_among x (y ∷ names) h c = by_place (two y x) (one_or_more y names x c) (none_among x names) h
  where
    by_place : Two y x → (y ≡ x) ⊎ Contains names x → (has_name x names ≡ false → Contains names x → ⊥) → ((y == x) || has_name x names) ≡ false → ⊥
    by_place (Same e) there rest h = (let both : true ≡ false = (λ i. sym (eqb_of e) i || has_name x names) ∙ h in cc)
    by_place (Apart f d) (inl here) rest h = d here
    by_place (Apart f d) (inr there) rest h = rest ((λ i. sym f i || has_name x names) ∙ h) there

no_note : (x name : ℕ) (n : Note) → cond (name == x) (Some n) None ≡ None → name ≡ x → ⊥
no_note x name n none same = (let both : Some n ≡ None = (λ i. cond (sym (eqb_of same) i) (Some n) None) ∙ none in cc)

-- the names of a message: its own, and those that its fields refer to
not_named : (x : ℕ) (m : Msg) → seen_note x m ≡ None → tells_of x m ≡ false → Contains (names_in m) x → ⊥
not_named x m note tells c = by_message m note tells c
  where
    by_names : (name : ℕ) (n : Note) (names : List ℕ) → cond (name == x) (Some n) None ≡ None → has_name x names ≡ false → Contains (name ∷ names) x → ⊥
    by_names name n names note tells c = none_among x (name ∷ names) (λ i. eqb_apart name x (no_note x name n note) i || tells i) c

    by_message : (m : Msg) → seen_note x m ≡ None → tells_of x m ≡ false → Contains (names_in m) x → ⊥
    by_message (msg.ReadReq name asker) note tells c = by_names name _ [] note refl c
    by_message (msg.WriteReq name asker) note tells c = by_names name _ [] note refl c
    by_message (msg.ReadGrant info fields) note tells c = by_names info.name _ (targets fields) note tells c
    by_message (msg.WriteGrant info fields) note tells c = by_names info.name _ (targets fields) note tells c
    by_message (msg.Inval name) note tells c = by_names name _ [] note refl c
    by_message (msg.InvAck name) note tells c = by_names name _ [] note refl c

pub not_nowhere : (st : Setting) (w : World) (x : ℕ) → IsSomewhere st w x → IsNowhere (seen x w) → ⊥
not_nowhere st w x (At n k node known) nowhere =
    let both : None ≡ Some (share_of k) = sym (nowhere.unknown n) ∙ ap seen_known known in
    cc
not_nowhere st w x (Between n m l a b there speaks) nowhere =
    let s : (before : List Letter) × (after : List Letter) × (w.channel n m ≡ before ++ l ∷ after) = split_at (w.channel n m) l there in
    let silent : IsSilent (seen_message x l) =
    nowhere.untold n m (seen_message x l) (map (seen_message x) s.0) (map (seen_message x) s.1)
    (ap (map (seen_message x)) s.2 ∙ map-append (seen_message x) s.0 (l ∷ s.1)) in
    not_named x l.msg silent.note silent.tells speaks

-- ## owners at a node

owned_known : (k : Option Known) → owned_at (seen_known k) ≡ 1 → (j : Known) × (k ≡ Some j) × (j.part.role ≡ role.Owner)
owned_known None h = absurd (omega arith)
owned_known (Some j) h = (j, refl, by_role j.part.role h)
  where
    by_role : (r : Role) → one_if (is_owner r) ≡ 1 → r ≡ role.Owner
    by_role role.Owner h = refl
    by_role (role.Parent parent) h = absurd (omega arith)

known_owned : (w : World) (x n : ℕ) (k : Known) → HasOwned w x n k → owned_at ((seen x w).holds n) ≡ 1
known_owned w x n k has =
    ap (λ (j : Option Known). owned_at (seen_known j)) has.known ∙ ap (λ (r : Role). one_if (is_owner r)) has.owns

-- ## ownership in flight

-- what is seen of a message hands x over just if the message does
pub is_hand : (x : ℕ) (l : Letter) → brings (seen_message x l) ≡ is_handover_of x l.msg
is_hand x l = by_message l.msg
  where
    other : (b : Bool) (n : Note) → is_handover n ≡ false → option_map_or is_handover (cond b (Some n) None) false ≡ false
    other true n h = h
    other false n h = refl

    one : (b : Bool) (n : Note) → is_handover n ≡ true → option_map_or is_handover (cond b (Some n) None) false ≡ b
    one true n h = h
    one false n h = refl

    by_message : (m : Msg) → option_map_or is_handover (seen_note x m) false ≡ is_handover_of x m
    by_message (msg.ReadReq name asker) = other (name == x) _ refl
    by_message (msg.WriteReq name asker) = other (name == x) _ refl
    by_message (msg.ReadGrant info fields) = other (info.name == x) _ refl
    by_message (msg.WriteGrant info fields) = one (info.name == x) _ refl
    by_message (msg.Inval name) = other (name == x) _ refl
    by_message (msg.InvAck name) = other (name == x) _ refl

pub hands_in : (x : ℕ) (letters : List Letter) → handovers_in (map (seen_message x) letters) ≡ handovers_of x letters
hands_in x [] = refl
hands_in x (l ∷ letters) =
    sum_by-cons (λ (k : Message). one_if (brings k)) (seen_message x l) (map (seen_message x) letters)
    ∙ (λ i. one_if (is_hand x l i) + hands_in x letters i)
    ∙ sym (sum_by-cons (λ (k : Letter). one_if (is_handover_of x k.msg)) l letters)

-- a letter that hands x over is counted
pub counted : (x : ℕ) (letters : List Letter) (l : Letter) → Contains letters l → is_handover_of x l.msg ≡ true → 1 ≤ handovers_of x letters
counted x [] l c h = absurd (omega (arith, c.1))
counted x (k ∷ letters) l c h = by_place (one_or_more k letters l c) (λ there. counted x letters l there h)
  where
    all : handovers_of x (k ∷ letters) ≡ one_if (is_handover_of x k.msg) + handovers_of x letters
    all = sum_by-cons (λ (j : Letter). one_if (is_handover_of x j.msg)) k letters

    by_place : (k ≡ l) ⊎ Contains letters l → (Contains letters l → 1 ≤ handovers_of x letters) → 1 ≤ handovers_of x (k ∷ letters)
    by_place (inl here) rest =
        let one : one_if (is_handover_of x k.msg) ≡ 1 = ap (λ (z : Letter). one_if (is_handover_of x z.msg)) here ∙ ap one_if h in
        omega (arith, all, one)
    by_place (inr there) rest = omega (arith, all, rest there)

pub moving_counted : (w : World) (x from to : ℕ) (l : Letter) (info : Info) (fields : List Field) → IsMoving w x from to l info fields → 1 ≤ handovers_of x (w.channel from to)
moving_counted w x from to l info fields moving =
    counted x (w.channel from to) l moving.there (ap (is_handover_of x) moving.grants ∙ eqb_of moving.named)

-- among letters one hands x over
pub record HandsAmong (x : ℕ) (letters : List Letter) : Type 0 where
  pub letter : Letter
  pub info : Info
  pub fields : List Field
  pub there : Contains letters letter
  pub grants : letter.msg ≡ msg.WriteGrant info fields
  pub named : info.name ≡ x

pub among : (x : ℕ) (letters : List Letter) → 1 ≤ handovers_of x letters → HandsAmong x letters
among x [] h = absurd (omega arith)
among x (l ∷ letters) h = by_message l.msg refl (among x letters)
  where
    all : handovers_of x (l ∷ letters) ≡ one_if (is_handover_of x l.msg) + handovers_of x letters
    all = sum_by-cons (λ (j : Letter). one_if (is_handover_of x j.msg)) l letters

    later : is_handover_of x l.msg ≡ false → (1 ≤ handovers_of x letters → HandsAmong x letters) → HandsAmong x (l ∷ letters)
    later none rest =
        let r : HandsAmong x letters = rest (omega (arith, h, all, ap one_if none)) in
        let c : Contains letters r.letter = r.there in
        record { letter = r.letter; info = r.info; fields = r.fields; there = (suc c.0, omega (arith, c.1), c.2); grants = r.grants; named = r.named }

    by_message : (m : Msg) → l.msg ≡ m → (1 ≤ handovers_of x letters → HandsAmong x letters) → HandsAmong x (l ∷ letters)
    by_message (msg.ReadReq name asker) is = later (ap (is_handover_of x) is)
    by_message (msg.WriteReq name asker) is = later (ap (is_handover_of x) is)
    by_message (msg.ReadGrant info fields) is = later (ap (is_handover_of x) is)
    by_message (msg.Inval name) is = later (ap (is_handover_of x) is)
    by_message (msg.InvAck name) is = later (ap (is_handover_of x) is)
    by_message (msg.WriteGrant info fields) is = by_name (two info.name x)
      where
        by_name : Two info.name x → (1 ≤ handovers_of x letters → HandsAmong x letters) → HandsAmong x (l ∷ letters)
        by_name (Same e) rest = record { letter = l; info = info; fields = fields; there = (0, omega arith, refl); grants = is; named = e }
        by_name (Apart f d) rest = later (ap (is_handover_of x) is ∙ f) rest

-- ## the seat

at_place : (n m : ℕ) (b : Bool) → (b ≡ true → m ≡ n) → one_if b ≡ 1 → m ≡ n
at_place n m true q h = q refl
at_place n m false q h = absurd (omega arith)

-- who knows x is a node of the store
abbrev pub AreNodes : Setting → World → ℕ → Type 0
AreNodes st w x = (n : ℕ) → is_some ((seen x w).holds n) ≡ true → n < st.nodes

-- ownership of x goes from one node of the store to another
abbrev pub GoesBetween : Setting → World → ℕ → Type 0
GoesBetween st w x = (from to : ℕ) → handovers_of x (w.channel from to) ≡ 1 → (from < st.nodes) × (to < st.nodes)

seat_in : (st : Setting) (w : World) (x : ℕ) → AreNodes st w x → GoesBetween st w x → (s : Seat) → IsOwned (seen x w) s → IsSeated st w x
seat_in st w x real between (model.At n) owned = seated.At n k.0 (real n (ap (λ (i : Option Known). is_some (seen_known i)) k.1)) (record { known = k.1; owns = k.2 })
    (λ m j has. at_place n m (m == n) (eqb_is m n) (sym (owned.nodes m) ∙ known_owned w x m j has))
    (λ from to. sym (hands_in x (w.channel from to)) ∙ owned.letters from to)
  where
    k : (j : Known) × ((w.state n).known x ≡ Some j) × (j.part.role ≡ role.Owner)
    k = owned_known ((w.state n).known x) (owned.nodes n ∙ ap one_if (eqb_same n))
seat_in st w x real between (model.Moving from to) owned = seated.Moving from to (between from to one).0 (between from to one).1 one
    (λ n m apart. sym (hands_in x (w.channel n m)) ∙ owned.letters n m ∙ elsewhere (two n from) (two m to) apart)
    (λ m j has. (let both : 0 ≡ 1 = sym (owned.nodes m) ∙ known_owned w x m j has in cc))
  where
    one : handovers_of x (w.channel from to) ≡ 1
    one = sym (hands_in x (w.channel from to)) ∙ owned.letters from to ∙ (λ i. one_if (eqb_same from i && eqb_same to i))

    elsewhere : {n m : ℕ} → Two n from → Two m to → (n ≡ from → m ≡ to → ⊥) → one_if ((n == from) && (m == to)) ≡ 0
    elsewhere (Same e) (Same f) apart = absurd (apart e f)
    elsewhere {n = n} {m = m} (Same e) (Apart f d) apart = (λ i. one_if ((n == from) && f i)) ∙ by_test (n == from)
      where
        by_test : (b : Bool) → one_if (b && false) ≡ 0
        by_test true = refl
        by_test false = refl
    elsewhere {m = m} (Apart f d) q apart = λ i. one_if (f i && (m == to))

owner_in : (st : Setting) (w : World) (x : ℕ) → IsSeated st w x → HasOneOwner st w x
owner_in st w x (seated.At n k real has others none) = record { owner = n; a_node = real; owns = Has k has; alone = alone }
  where
    alone : (m : ℕ) → Owns w x m → m ≡ n
    alone m (Has j owned) = others m j owned
    alone m (Gets from l info fields moving) = absurd (omega (arith, moving_counted w x from m l info fields moving, none from m))
owner_in st w x (seated.Moving from to _ real one elsewhere none) = record {
  owner = to;
  a_node = real;
  owns = Gets from h.letter h.info h.fields (record { there = h.there; grants = h.grants; named = h.named });
  alone = alone;
}
  where
    h : HandsAmong x (w.channel from to)
    h = among x (w.channel from to) (omega (arith, one))

    alone : (m : ℕ) → Owns w x m → m ≡ to
    alone m (Has j owned) = absurd (none m j owned)
    alone m (Gets other l info fields moving) = by_two (two m to)
      where
        by_two : Two m to → m ≡ to
        by_two (Same e) = e
        by_two (Apart f d) = absurd (omega (arith, moving_counted w x other m l info fields moving, elsewhere other m (λ _ e. d e)))

pub each_seat : (st : Setting) (w : World) → ((x : ℕ) → AreNodes st w x) → ((x : ℕ) → GoesBetween st w x) → ((x : ℕ) → HasOneSeat (seen x w)) →
    (x : ℕ) → IsSomewhere st w x → IsSeated st w x
each_seat st w real between seats x somewhere = by_seat (seats x)
  where
    by_seat : HasOneSeat (seen x w) → IsSeated st w x
    by_seat (inl nowhere) = absurd (not_nowhere st w x somewhere nowhere)
    by_seat (inr seat) = seat_in st w x (real x) (between x) seat.0 seat.1

pub each_owner : (st : Setting) (w : World) → ((x : ℕ) → AreNodes st w x) → ((x : ℕ) → GoesBetween st w x) → ((x : ℕ) → HasOneSeat (seen x w)) → EachHasOneOwner st w
each_owner st w real between seats x somewhere = owner_in st w x (each_seat st w real between seats x somewhere)

-- ## a write

pub writes_exclude : (st : Setting) (w : World) → ((x : ℕ) → WriteExcludes (seen x w)) → WritesExclude st w
writes_exclude st w each n m x j k real other has also writes held =
    each x n m (share_of j) (share_of k) (ap seen_known has) (ap seen_known also) writes held
