use Rattle.std.proofs.Common.{◌≡◌, ◌-◌, List, ℕ, Option, ◌++◌, length, take, drop, subst, ap, append_assoc, ◌∙◌, arith, rules}
use Rattle.std.proofs.lemmas.List.{take-append-drop}
use Rattle.std.proofs.KnownBytes.{Appends-trans}
use Rattle.bmx_outside.specs.Streams.{AppendsPart}
use Rattle.bmx_cli.proofs.Writing.{rest_is, part_of}
use Rattle.bmx_cli.proofs.top.write_lines.Goals as goal

pub loop-rest-preserved : goal.loop-rest-preserved
loop-rest-preserved g c =
    let out : _ → Option (List ℕ) = g.K.Sink.out in
    let before = c.loop-rest.invariant in
    let rest : List ℕ = c.loop-rest.rest.now in
    let n : ℕ = c.first_line-end.result in
    let front : List ℕ = before.written.0 in
    let line : List ℕ = take n rest in
    let split : (front ++ line) ++ take (length rest - n) (drop n rest) ≡ c.args.text.now =
    ap (λ t. (front ++ line) ++ t) (rest_is rest n) ∙ append_assoc front line (drop n rest) ∙ ap (λ t. front ++ t) (take-append-drop n rest) ∙ before.written.1 in
    record {
      written = (front ++ line, split, Appends-trans (out c.args.sink.now) (out c.loop-rest.sink) (out c.write_all.new.sink) _ _ before.written.2 c.in_ok-write_all.ensures.ok);
      counted = omega (arith, c.in_ok-write_all.ensures.faults, before.counted);
    }

pub returns-in_err-write_all-clause-err : goal.returns-in_err-write_all-clause-err
returns-in_err-write_all-clause-err g c =
    let out : _ → Option (List ℕ) = g.K.Sink.out in
    let before = c.loop-rest.invariant in
    let rest : List ℕ = c.loop-rest.rest.now in
    let n : ℕ = c.first_line-end.result in
    let front : List ℕ = before.written.0 in
    let whole : front ++ (take n rest ++ drop n rest) ≡ c.args.text.now = ap (λ t. front ++ t) (take-append-drop n rest) ∙ before.written.1 in
    let part : AppendsPart (out c.args.sink.now) (out c.write_all.new.sink) c.args.text.now =
    subst (λ (t : List ℕ). AppendsPart (out c.args.sink.now) (out c.write_all.new.sink) t) whole
    (part_of (out c.args.sink.now) (out c.loop-rest.sink) (out c.write_all.new.sink) front (take n rest) (drop n rest) before.written.2 c.in_err-write_all.ensures.err) in
    search rules
