-- An object that is laid at an address.
use Rattle.std.proofs.Common.{◌≡◌, ◌≢◌, ◌⊎◌, ℕ, ◌+◌, ◌<◌, ◌≤◌, true, List, Some, refl, sym, ap, ◌∙◌, inl, inr, arith}
use Rattle.std.specs.Prelude.{if◌then◌else◌}
use Rattle.std.proofs.lemmas.Bool.{cases_eq, eq-eqb, ne_eqb, false≢true}
use Rattle.std.proofs.lemmas.Option.{same_Some}
use Rattle.bmx_types.specs.declared.addresses.Place.{Place}
use Rattle.bmx_segment.specs.Headers.{kind_of, IsLive}
use Rattle.bmx_segment.specs.Blocks.{Block}
use Rattle.bmx_segment.specs.Stores.{header_at, word_at, Sets, AreApart, Lays}
use Rattle.bmx_segment.specs.declared.headers.Header.{Header}
use Rattle.bmx_segment.specs.declared.headers.State.{State}
use Rattle.bmx_segment.specs.declared.headers.State.TheVariants.{Live, Forwarded, Dead}
use Rattle.bmx_replica.specs.Chains.{is_live}
use Rattle.bmx_replica.specs.Layouts.{Moves, kinds_in, moves_in, with_kinds}

-- an object stands at an address, with those words in its fields; no other header changes, and no word
-- outside the object
pub record Laid (old new : List Block) (a : ℕ) (h : Header) (f : ℕ → ℕ) : Type 0 where
  pub header : header_at new a ≡ Some h
  pub words : (i : ℕ) → i < h.size → word_at new (a + 4 + i) ≡ f i
  pub headers : (x : ℕ) → x ≢ a → header_at new x ≡ header_at old x
  pub others : (x : ℕ) → (x < a) ⊎ (a + 4 + h.size ≤ x) → word_at new x ≡ word_at old x
  pub apart : AreApart new

-- an object moves from an address to a place
pub record Moved (old new : List Block) (a : ℕ) (to : Place) (h : Header) : Type 0 where
  pub mid : List Block
  pub lays : Laid old mid to.address (record h { state = Live to.moves (kinds_in h.state) }) (λ i. word_at old (a + 4 + i))
  pub forwards : Sets mid new a (record h { state = Forwarded to.address })

same_state : (s : State) → is_live s ≡ true → s ≡ Live (moves_in s) (kinds_in s)
same_state (Live moves kinds) live = refl
same_state (Forwarded to) live = absurd (false≢true live)
same_state Dead live = absurd (false≢true live)

pub IsLive-from : (s : State) → is_live s ≡ true → IsLive s
IsLive-from (Live moves kinds) live = tt
IsLive-from (Forwarded to) live = absurd (false≢true live)
IsLive-from Dead live = absurd (false≢true live)

-- a live header with its own kinds
pub with_kinds-own : (h : Header) → is_live h.state ≡ true → h ≡ with_kinds h (kinds_in h.state)
with_kinds-own h live = ap (λ (s : State). let x : Header = record h { state = s } in x) (same_state h.state live)

-- where all headers keep their sizes, they stay apart
pub AreApart-kept : (old new : List Block) → AreApart old → ((a : ℕ) (x : Header) → header_at new a ≡ Some x → (y : Header) × (header_at old a ≡ Some y) × (y.size ≡ x.size)) → AreApart new
AreApart-kept old new apart had = λ a b x y ex ey lt.
    let p = had a x ex in
    let q = had b y ey in
    let far = apart a b p.0 q.0 p.1 q.1 lt in
    let size = p.2 in
    omega arith

-- the header that was set
pub sets_there : (old new : List Block) (a : ℕ) (h : Header) → Sets old new a h → header_at new a ≡ Some h
sets_there old new a h sets = sets.headers a ∙ ap (λ b. if b then Some h else header_at old a) (eq-eqb a a refl)

pub sets_other : (old new : List Block) (a : ℕ) (h : Header) (x : ℕ) → Sets old new a h → x ≢ a → header_at new x ≡ header_at old x
sets_other old new a h x sets off = sets.headers x ∙ ap (λ b. if b then Some h else header_at old x) (ne_eqb a x (λ e. off (sym e)))

-- what is laid after nothing but mapping changed
pub Laid-from : (old mid new : List Block) (a : ℕ) (h : Header) (f g : ℕ → ℕ) → ((x : ℕ) → header_at mid x ≡ header_at old x) → ((x : ℕ) → word_at mid x ≡ word_at old x) → AreApart new
    → ((i : ℕ) → i < h.size → f i ≡ g i) → Lays mid new a h f → Laid old new a h g
Laid-from old mid new a h f g headers words apart same lays = record {
  header = lays.headers a ∙ ap (λ b. if b then Some h else header_at mid a) (eq-eqb a a refl);
  words = λ i small. lays.fields i small ∙ same i small;
  headers = λ x off. lays.headers x ∙ ap (λ b. if b then Some h else header_at mid x) (ne_eqb a x (λ e. off (sym e))) ∙ headers x;
  others = λ x away. lays.words x away ∙ words x;
  apart = apart;
}

-- the words may be told another way
pub Lays-words : (old new : List Block) (a : ℕ) (h : Header) (f g : ℕ → ℕ) → ((i : ℕ) → i < h.size → f i ≡ g i) → Lays old new a h f → Lays old new a h g
Lays-words old new a h f g same lays = record {
  mapped = lays.mapped;
  headers = lays.headers;
  fields = λ i small. lays.fields i small ∙ same i small;
  words = lays.words;
}

-- an object that moves after nothing but mapping changed
pub Moved-from : (old mid new : List Block) (a : ℕ) (to : Place) (h : Header) → ((x : ℕ) → header_at mid x ≡ header_at old x) → ((x : ℕ) → word_at mid x ≡ word_at old x) → AreApart new
    → header_at old a ≡ Some h → a ≢ to.address → Moves mid new a to h → Moved old new a to h
Moved-from old mid new a to h headers words apart there off moves =
    let x : Header = record h { state = Live to.moves (kinds_in h.state) } in
    let g : Header = record h { state = Forwarded to.address } in
    let lay = moves.lays in
    let here : header_at moves.mid a ≡ Some h = lay.headers a ∙ ap (λ b. if b then Some x else header_at mid a) (ne_eqb to.address a (λ e. off (sym e))) ∙ headers a ∙ there in
    let between : AreApart moves.mid = AreApart-kept new moves.mid apart (λ b y e.
    elim (cases_eq b a) [
      | inl at ↦
          let is : h ≡ y = same_Some h y (sym here ∙ ap (header_at moves.mid) (sym at) ∙ e) in
          (g, ap (header_at new) at ∙ sets_there moves.mid new a g moves.forwards, ap (λ (z : Header). z.size) is)
      | inr away ↦ (y, sets_other moves.mid new a g b moves.forwards away ∙ e, refl)
    ]) in
    record {
      mid = moves.mid;
      lays = Laid-from old mid moves.mid to.address x (λ i. word_at mid (a + 4 + i)) (λ i. word_at old (a + 4 + i)) headers words between (λ i small. words (a + 4 + i)) lay;
      forwards = moves.forwards;
    }

-- no kind
pub kind_of-none : (i : ℕ) → kind_of 0 i ≡ 0
kind_of-none i = grind arith
