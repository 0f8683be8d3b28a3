use Rattle.std.proofs.Common.{◌≡◌, sym, subst, List, ℕ, Ok, rules}
use Rattle.bmx_script.specs.Grammar.{IsReading, script_text}
use Rattle.bmx_script.proofs.RoundTrip.{round_trip}
use Rattle.bmx_script.proofs.spelling.print_script.Goals as goal

pub returns-clause-read : goal.returns-clause-read
returns-clause-read c =
    let text : c.from_string.result ≡ script_text c.args.script.now = search rules in
    subst (λ (bytes : List ℕ). IsReading bytes (Ok c.args.script.now)) (sym text) (round_trip c.args.script.now c.lines.ensures.script)
