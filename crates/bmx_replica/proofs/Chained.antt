-- Where chains of headers end, and what keeps them ending.
use Rattle.std.proofs.Common.{◌≡◌, ◌⊎◌, ℕ, true, cond, List, Option, Some, None, refl, sym, ap, ◌∙◌, inl, inr}
use Rattle.std.proofs.Math.Logic.{∥∥₁_elim, ∥∥₁_map}
use Rattle.std.specs.Option.{option_map, option_and_then}
use Rattle.std.proofs.lemmas.Bool.{cases_eq, false≢true}
use Rattle.std.proofs.lemmas.Option.{none-some, same_Some, option_and_then_some, cond_some}
use Rattle.bmx_types.specs.Words.{IsAddress}
use Rattle.bmx_segment.specs.Blocks.{Block}
use Rattle.bmx_segment.specs.Stores.{header_at}
use Rattle.bmx_segment.specs.declared.headers.Header.{Header}
use Rattle.bmx_segment.specs.declared.headers.State.{State}
use Rattle.bmx_segment.specs.declared.headers.State.TheVariants.{Live, Forwarded, Dead}
use Rattle.bmx_replica.specs.Chains.{is_live, is_end, name_at, living, living_at, Leads, here, on, Ends, EndsAs, Means}
use Rattle.bmx_replica.specs.Replicas.{IsReplica}
use Rattle.bmx_replica.specs.declared.directory.Slot.{Slot}

pub map_some : {A B : Type 0} (f : A → B) (o : Option A) (y : B) → option_map f o ≡ Some y → (x : A) × (o ≡ Some x) × (f x ≡ y)
map_some f None y e = absurd (none-some y e)
map_some f (Some x) y e = (x, refl, same_Some (f x) y e)

-- the header that has a name
pub named : (blocks : List Block) (a n : ℕ) → name_at blocks a ≡ Some n → (h : Header) × (header_at blocks a ≡ Some h) × (h.name ≡ n)
named blocks a n e = map_some (λ (h : Header). h.name) (header_at blocks a) n e

pub name_at-from : (blocks : List Block) (a : ℕ) (h : Header) → header_at blocks a ≡ Some h → name_at blocks a ≡ Some h.name
name_at-from blocks a h e = ap (option_map (λ (h : Header). h.name)) e

-- the live header that has a name
pub alive : (blocks : List Block) (a n : ℕ) → living_at blocks a ≡ Some n → (h : Header) × (header_at blocks a ≡ Some h) × (is_live h.state ≡ true) × (h.name ≡ n)
alive blocks a n e = option_and_then_some living (header_at blocks a) n e (λ h is l. let p = cond_some (is_live h.state) h.name n l in (h, is, p.0, p.1))

pub living_at-from : (blocks : List Block) (a : ℕ) (h : Header) → header_at blocks a ≡ Some h → is_live h.state ≡ true → living_at blocks a ≡ Some h.name
living_at-from blocks a h e live = ap (option_and_then living) e ∙ ap (λ b. cond b (Some h.name) None) live

pub is_end-live : (s : State) → is_live s ≡ true → is_end s ≡ true
is_end-live (Live moves kinds) live = refl
is_end-live (Forwarded to) live = absurd (false≢true live)
is_end-live Dead live = absurd (false≢true live)

pub not_live : (s : State) (c : ℕ) → s ≡ Forwarded c → is_live s ≡ true → ⊥
not_live s c f live = false≢true (sym (ap is_live f) ∙ live)

pub Leads-there : {blocks : List Block} {b a : ℕ} {x : Header} → Leads blocks b x a → (h : Header) × (header_at blocks a ≡ Some h)
Leads-there {b = b} {x = x} (here e end) = (x, e)
Leads-there (on c h e f rest) = (h, e)

-- a live header at which following an address ends
pub record Lives (blocks : List Block) (a : ℕ) : Type 0 where
  pub end : Ends blocks a
  pub live : is_live end.header.state ≡ true

pub Lives-here : (blocks : List Block) (a : ℕ) (h : Header) → header_at blocks a ≡ Some h → is_live h.state ≡ true → Lives blocks a
Lives-here blocks a h e live = record { end = record { at = a; header = h; leads = here e (is_end-live h.state live) }; live = live }

pub Lives-on : (blocks : List Block) (a c : ℕ) (h : Header) → header_at blocks a ≡ Some h → h.state ≡ Forwarded c → Lives blocks c → Lives blocks a
Lives-on blocks a c h e f l = record { end = record { at = l.end.at; header = l.end.header; leads = on c h e f l.end.leads }; live = l.live }

-- where each header that changes leads to a live one, a chain ends where it did or at a live header
pub Leads-kept : (old new : List Block) (b : ℕ) (x : Header) (a : ℕ) → ((a : ℕ) → (header_at new a ≡ header_at old a) ⊎ Lives new a) → Leads old b x a → Leads new b x a ⊎ Lives new a
Leads-kept old new b x a kept (here e end) =
    elim (kept b) [ inl same ↦ inl (here (same ∙ e) end) | inr l ↦ inr l ]
Leads-kept old new b x a kept (on c h e f rest) =
    elim (kept a) [
      | inl same ↦
          elim (Leads-kept old new b x c kept rest) [
            | inl l ↦ inl (on c h (same ∙ e) f l)
            | inr l ↦ inr (Lives-on new a c h (same ∙ e) f l)
          ]
      | inr l ↦ inr l
    ]

module _ (blocks : List Block) (forwards : (a c : ℕ) (h : Header) → header_at blocks a ≡ Some h → h.state ≡ Forwarded c → name_at blocks c ≡ Some h.name) where
  -- all headers of a chain have one name
  pub Leads-name : (b : ℕ) (x : Header) (a : ℕ) (h : Header) → Leads blocks b x a → header_at blocks a ≡ Some h → x.name ≡ h.name
  Leads-name b x a h (here e end) is = ap (λ (y : Header). y.name) (same_Some x h (sym e ∙ is))
  Leads-name b x a h (on c g e f rest) is =
      let t = named blocks c g.name (forwards a c g e f) in
      Leads-name b x c t.0 rest t.1 ∙ t.2 ∙ ap (λ (y : Header). y.name) (same_Some g h (sym e ∙ is))

  pub name_at-ends : (a n : ℕ) → EndsAs blocks a n → name_at blocks a ≡ Some n
  name_at-ends a n e =
      let t = Leads-there e.end.leads in
      name_at-from blocks a t.0 t.1 ∙ ap Some (sym (Leads-name e.end.at e.end.header a t.0 e.end.leads t.1) ∙ e.named)

option_of : (o : Option Header) → (o ≡ None) ⊎ ((h : Header) × (o ≡ Some h))
option_of None = inl refl
option_of (Some h) = inr (h, refl)

module _ (slots : List (ℕ × Slot)) (blocks : List Block) (kept : IsReplica slots blocks) where
  -- what a word means is the name in the header at it
  pub Means-from : (w n : ℕ) → IsAddress w → name_at blocks w ≡ Some n → Means blocks w n
  Means-from w n address e =
      let t = named blocks w n e in
      record {
        address = address;
        ends = ∥∥₁_map (kept.ends w t.0 t.1) (λ (end : Ends blocks w). let a : EndsAs blocks w n = record { end = end; named = Leads-name blocks kept.forwards end.at end.header w t.0 end.leads t.1 ∙ t.2 } in a);
      }

  pub name_at-means : (w n : ℕ) → ∥ EndsAs blocks w n ∥₁ → name_at blocks w ≡ Some n
  name_at-means w n m =
      elim (option_of (header_at blocks w)) [
        | inl none ↦ absurd (∥∥₁_elim {P = ⊥} m (hlevel) (λ (e : EndsAs blocks w n). none-some n (sym (ap (option_map (λ (h : Header). h.name)) none) ∙ name_at-ends blocks kept.forwards w n e)))
        | inr t ↦
            elim (cases_eq t.0.name n) [
              | inl same ↦ name_at-from blocks w t.0 t.1 ∙ ap Some same
              | inr other ↦ absurd (∥∥₁_elim {P = ⊥} m (hlevel) (λ (e : EndsAs blocks w n). other (same_Some t.0.name n (sym (name_at-from blocks w t.0 t.1) ∙ name_at-ends blocks kept.forwards w n e))))
            ]
      ]
