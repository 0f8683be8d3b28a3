-- How a run of many nodes opens.
use Rattle.std.proofs.Common.{◌≡◌, ℕ, zero, suc, ◌+◌, ◌<◌, ◌^◌, ◌⊎◌, inl, inr, arith, refl, ap, sym, ◌∙◌, subst, Bool, false, cond, List, [], ◌∷◌, ◌++◌, length, Option, Some, None, ⊎_elim}
use Rattle.std.specs.Prelude.{slice_get, string_bytes}
use Rattle.std.specs.Option.{option_map_or}
use Rattle.std.proofs.Math.Path.{fun_ext}
use Rattle.std.proofs.lemmas.List.{length-append}
use Rattle.rand_pcg.specs.Lcg.{Lcg, advance, state_after}
use Rattle.rand_pcg.specs.Pcg.{multiplier_64}
use Rattle.bmx_types.specs.Openings.{IsOpening}
use Rattle.bmx_script.specs.declared.lines.Line.{Line}
use Rattle.bmx_protocol.specs.Nodes.{Setting}
use Rattle.bmx_protocol.specs.Histories.{in_flight}
use Rattle.bmx_protocol.specs.Steps.{Node, first_node}
use Rattle.bmx_protocol.specs.Runs.Programs.{stages}
use Rattle.bmx_protocol.specs.Runs.Turns.{generator}
use Rattle.bmx_node.specs.Stamped.{Stamped}
use Rattle.bmx_node.specs.Seen.{node_of, Suits}
use Rattle.bmx_legal.specs.Growing.{Leads}
use Rattle.bmx_legal.specs.Inside.Spots.{Finds}
use Rattle.bmx_legal.proofs.Growing.{history_begins}
use Rattle.bmx_lanes.specs.Sending.{lane_of}
use Rattle.bmx_turns.proofs.Growing.{comes_first}
use Rattle.bmx_world.specs.Scripts.{body_of, setting_of_script}
use Rattle.bmx_run.specs.declared.seats.Seat.{Seat}
use Rattle.bmx_run.specs.declared.runner.Runner.{Runner}
use Rattle.bmx_run.specs.Inside.Seats.{command_at, SitsAt}
use Rattle.bmx_run.specs.Inside.Steps.{nodes_in, stamps_in, AreNodes}
use Rattle.bmx_run.specs.Inside.Running.{IsBetween}

-- a node as it opens
pub record IsFresh (st : Setting) (n : ℕ) (d : Stamped) : Type 0 where
  pub node : node_of d.holdings ≡ first_node st n
  pub me : d.holdings.me ≡ n
  pub suits : Suits st d.holdings
  pub stamp : d.stamp ≡ 0

-- a seat with no command
pub record IsBare (s : Seat) : Type 0 where
  pub orders : s.orders.items ≡ []
  pub completed : s.completed ≡ 0
  pub waits : s.waits ≡ false

-- so many nodes and seats of them
pub record AreFresh (st : Setting) (count : ℕ) (nodes : List Stamped) (seats : List Seat) : Type 0 where
  pub each : length nodes ≡ count
  pub seats_each : length seats ≡ count
  pub fresh : (n : ℕ) (d : Stamped) → slice_get nodes n ≡ Some d → IsFresh st n d
  pub bare : (n : ℕ) (s : Seat) → slice_get seats n ≡ Some s → IsBare s

pub fresh_none : (st : Setting) → AreFresh st 0 [] []
fresh_none st = record { each = refl; seats_each = refl; fresh = λ n d got. absurd (cc); bare = λ n s got. absurd (cc) }

-- what stands in a list with one more at its end
pub pushed : {A : Type 0} (xs : List A) (y : A) (n : ℕ) (x : A) → slice_get (xs ++ y ∷ []) n ≡ Some x → (slice_get xs n ≡ Some x) ⊎ ((n ≡ length xs) × (y ≡ x))
pushed [] y zero x got = inr (refl, cc)
pushed [] y (suc n) x got = absurd cc
pushed (z ∷ xs) y zero x got = inl got
pushed (z ∷ xs) y (suc n) x got = ⊎_elim (λ e. inl e) (λ e. inr (ap (λ (k : ℕ). suc k) e.0, e.1)) (pushed xs y n x got)

pub fresh_more : (st : Setting) (count : ℕ) (nodes : List Stamped) (seats : List Seat) (d : Stamped) (s : Seat) → AreFresh st count nodes seats → IsFresh st count d → IsBare s →
    AreFresh st (count + 1) (nodes ++ d ∷ []) (seats ++ s ∷ [])
fresh_more st count nodes seats d s are fresh bare = record {
  each = length-append nodes (d ∷ []) ∙ ap (λ (k : ℕ). k + 1) are.each;
  seats_each = length-append seats (s ∷ []) ∙ ap (λ (k : ℕ). k + 1) are.seats_each;
  fresh = λ n x got. ⊎_elim (λ e. are.fresh n x e)
      (λ e. subst (IsFresh st n) e.1 (subst (λ (k : ℕ). IsFresh st k d) (sym (e.0 ∙ are.each)) fresh)) (pushed nodes d n x got);
  bare = λ n x got. ⊎_elim (λ e. are.bare n x e) (λ e. subst IsBare e.1 bare) (pushed seats s n x got);
}

-- their nodes are those of a history of no event
seen_fresh : {B : Type 0} (f : Stamped → B) (d : B) (o : Option Stamped) → ((x : Stamped) → o ≡ Some x → f x ≡ d) → option_map_or f o d ≡ d
seen_fresh f d None h = refl
seen_fresh f d (Some x) h = h x refl

stamps_fresh : (st : Setting) (count : ℕ) (nodes : List Stamped) (seats : List Seat) → AreFresh st count nodes seats → stamps_in nodes ≡ (λ _. 0)
stamps_fresh st count nodes seats are = fun_ext (λ n. seen_fresh (λ (d : Stamped). d.stamp) 0 (slice_get nodes n) (λ x got. (are.fresh n x got).stamp))

leads_fresh : (st : Setting) (count : ℕ) (nodes : List Stamped) (seats : List Seat) → AreFresh st count nodes seats → Leads st [] (nodes_in st nodes) (stamps_in nodes)
leads_fresh st count nodes seats are =
    subst (λ (f : ℕ → Node). Leads st [] f (stamps_in nodes)) (sym (fun_ext (λ n. seen_fresh (λ (d : Stamped). node_of d.holdings) (first_node st n) (slice_get nodes n) (λ x got. (are.fresh n x got).node))))
    (subst (λ (f : ℕ → ℕ). Leads st [] (first_node st) f) (sym (stamps_fresh st count nodes seats are)) (history_begins st))

nodes_fresh : (st : Setting) (nodes : List Stamped) (seats : List Seat) → AreFresh st st.nodes nodes seats → AreNodes st nodes
nodes_fresh st nodes seats are = record { each = are.each; me = λ n d got. (are.fresh n d got).me; suits = λ n d got. (are.fresh n d got).suits }

bare_sits : (n : ℕ) (s : Seat) → IsBare s → SitsAt [] [] [] n s
bare_sits n s bare = record {
  program = bare.orders;
  completed = bare.completed;
  waits = sym (ap (λ (b : Bool). cond b (command_at s.orders.items s.completed) None) bare.waits);
}

no_steps : (g : Lcg) → g ≡ advance 64 multiplier_64 0 g
unfolding state_after
no_steps g = refl

-- a run of them is before its first phase
pub begins : (lines : List Line) (seed : ℕ) (st : Setting) (r : Runner) → st ≡ setting_of_script lines → IsOpening st.nodes st.limit st.births →
    AreFresh st st.nodes r.nodes.items r.seats.items → lane_of r.lanes ≡ (λ from to. []) → r.generator ≡ generator seed → r.history.items ≡ [] → string_bytes r.text ≡ [] →
    r.budget < 2 ^ 55 → IsBetween lines seed [] [] (stages (body_of lines)) r
begins lines seed st r same opens_st are_st lanes drawn none no_text small = record {
  whole = record {
    history = none;
    few = omega arith;
    small = small;
    opens = opens;
    nodes = nodes_fresh (setting_of_script lines) r.nodes.items r.seats.items are;
    leads = leads_fresh (setting_of_script lines) (setting_of_script lines).nodes r.nodes.items r.seats.items are;
    stamped = stamps_fresh (setting_of_script lines) (setting_of_script lines).nodes r.nodes.items r.seats.items are;
    text = no_text;
  };
  ready = record {
    given = λ g c. absurd (omega (arith, c.1));
    seats = record { each = are.seats_each; sits = λ n s got. bare_sits n s (are.bare n s got) };
    lanes = λ from to. subst (λ (f : ℕ → ℕ → List (ℕ × ℕ)). Finds [] (f from to) (in_flight from to [])) (sym lanes) tt;
  };
  calm = λ n s got. (are.bare n s got).waits;
  comes = comes_first (setting_of_script lines) seed (stages (body_of lines));
  draws = drawn ∙ no_steps (generator seed);
}
  where
    opens : IsOpening (setting_of_script lines).nodes (setting_of_script lines).limit (setting_of_script lines).births
    opens = subst (λ (s : Setting). IsOpening s.nodes s.limit s.births) same opens_st

    are : AreFresh (setting_of_script lines) (setting_of_script lines).nodes r.nodes.items r.seats.items
    are = subst (λ (s : Setting). AreFresh s s.nodes r.nodes.items r.seats.items) same are_st
