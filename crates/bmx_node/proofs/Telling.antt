-- What a node tells of its tokens is what its state knows of them.
use Rattle.std.proofs.Common.{◌≡◌, ◌↔◌, ℕ, Bool, true, false, Option, Some, None, is_some, Contains, unwrap_or, refl, sym, ap, ◌∙◌, subst}
use Rattle.std.proofs.lemmas.Bool.{false≢true}
use Rattle.std.specs.Option.{option_map, option_map_or}
use Rattle.bmx_token.specs.declared.parts.Part.{Part}
use Rattle.bmx_token.specs.Tokens.{owner_part}
use Rattle.bmx_token.specs.Transitions.{can_serve}
use Rattle.bmx_tokens.specs.Tables.{part_of, is_served_at, IsIndexed}
use Rattle.bmx_memory.specs.Shown.{Object, shown, known_as}
use Rattle.bmx_protocol.specs.Nodes.{Known, AreAll}
use Rattle.bmx_protocol.specs.Runs.Programs.{CanServe}
use Rattle.bmx_node.specs.declared.holdings.Holdings.{Holdings}
use Rattle.bmx_node.specs.Seen.{state_of}
use Rattle.bmx_node.specs.Stamped.{Stamped}
use Rattle.bmx_node.specs.Inside.Keeping.{Keeps}

-- what is asked of a token that is there, and of what is known of its name, is the same
asked_of : (f : Part → Bool) (o : Option Object) (p : Option Part) → is_some p ≡ is_some o →
    option_map_or f p false ≡ option_map_or (λ (k : Known). f k.part) (option_map (known_as (unwrap_or p owner_part)) o) false
asked_of f None None same = refl
asked_of f None (Some p) same = absurd (false≢true (sym same))
asked_of f (Some o) None same = absurd (false≢true same)
asked_of f (Some o) (Some p) same = refl

pub token_known : (f : Part → Bool) (h : Holdings) → Keeps h → (name : ℕ) →
    option_map_or f (part_of h.tokens name) false ≡ option_map_or (λ (k : Known). f k.part) ((state_of h).known name) false
unfolding state_of
token_known f h keeps name = asked_of f ((shown h.memory).object name) (part_of h.tokens name) (keeps.agree.same name)

-- the index lists the names that can be served
pub all_served : (h : Holdings) → Keeps h → IsIndexed h.tokens → AreAll (CanServe h.me (state_of h)) h.tokens.servable
all_served h keeps index = record {
  rising = index.rises;
  all = λ name.
      let same : is_served_at h.tokens.me h.tokens.parts name ≡ option_map_or (λ (k : Known). can_serve h.me k.part) ((state_of h).known name) false =
      ap (λ (me : ℕ). is_served_at me h.tokens.parts name) keeps.tokens ∙ token_known (can_serve h.me) h keeps name in
      (λ listed. sym same ∙ (index.exact name).0 listed, λ can. (index.exact name).1 (same ∙ can));
}

-- the same of what contracts see of a node
module _ (n v : Stamped) (view_is : n ≡ v) (keeps : Keeps n.holdings) where
  pub token_known_at : (f : Part → Bool) (name : ℕ) →
      option_map_or f (part_of v.holdings.tokens name) false ≡ option_map_or (λ (k : Known). f k.part) ((state_of v.holdings).known name) false
  token_known_at f name = token_known f v.holdings (subst (λ (w : Stamped). Keeps w.holdings) view_is keeps) name

  pub all_served_at : IsIndexed v.holdings.tokens → AreAll (CanServe v.holdings.me (state_of v.holdings)) v.holdings.tokens.servable
  all_served_at index = all_served v.holdings (subst (λ (w : Stamped). Keeps w.holdings) view_is keeps) index
