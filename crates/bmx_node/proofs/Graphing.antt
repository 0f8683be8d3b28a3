-- The graph that holdings see is that of the state.
use Rattle.std.proofs.Math.Path.{fun_ext}
use Rattle.std.proofs.lemmas.Bool.{false≢true}
use Rattle.std.proofs.Common.{◌≡◌, ◌==◌, if◌then◌else◌, map, Option, Some, None, is_some, unwrap_or, option_and_then, refl, sym, ap}
use Rattle.std.specs.Option.{option_map, option_map_or}
use Rattle.bmx_types.specs.declared.numbers.Mode.{Mode}
use Rattle.bmx_token.specs.declared.parts.Part.{Part}
use Rattle.bmx_token.specs.Tokens.{owner_part}
use Rattle.bmx_tokens.specs.Tables.{part_of, part_at}
use Rattle.bmx_protocol.specs.Nodes.{Known, seen_graph, value_in, fields_known}
use Rattle.bmx_memory.specs.Shown.{Object, shown, known_with, known_as}
use Rattle.bmx_node.specs.declared.holdings.Holdings.{Holdings}
use Rattle.bmx_node.specs.Seen.{state_of}
use Rattle.bmx_node.specs.Inside.Graphs.{graph_of}
use Rattle.bmx_node.specs.Inside.Keeping.{Keeps}
use Rattle.bmx_types.specs.declared.values.Val.TheVariants as val

fields_seen : (p : Part) (o : Option Object) → option_and_then (λ (x : Object). option_map (map value_in) x.copy) o ≡ fields_known (option_map (known_as p) o)
fields_seen p None = refl
fields_seen p (Some o) = refl

hold_seen : (part : Option Part) (o : Option Object) → is_some part ≡ is_some o →
    option_and_then (λ (p : Part). p.held) part ≡ option_map_or (λ (k : Known). k.part.held) (option_map (known_as (unwrap_or part owner_part)) o) None
hold_seen None None same = refl
hold_seen None (Some o) same = refl
hold_seen (Some p) (Some o) same = refl
hold_seen (Some p) None same = absurd (false≢true (sym same))

pub graph_is : (h : Holdings) → Keeps h → graph_of h ≡ seen_graph h.me (state_of h)
unfolding graph_of state_of
graph_is h keeps = λ i. record {
  object = fun_ext (λ name. fields_seen (part_at h.tokens name) ((shown h.memory).object name)) i;
  register = λ n r. if n == h.me then (shown h.memory).register r else val.Null;
  held = fun_ext {f = λ n name. if n == h.me then option_and_then (λ (p : Part). p.held) (part_of h.tokens name) else None}
      {g = λ n name. if n == h.me then option_map_or (λ (k : Known). k.part.held) (known_with (shown h.memory).object (part_at h.tokens) name) None else None}
      (λ n. fun_ext (λ name. ap (λ (x : Option Mode). if n == h.me then x else None) (hold_seen (part_of h.tokens name) ((shown h.memory).object name) (keeps.agree.same name)))) i;
  made = λ n. if n == h.me then h.made else 0;
}
