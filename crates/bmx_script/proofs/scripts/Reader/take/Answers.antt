use Rattle.std.proofs.Common.{◌≡◌, List, ℕ, ◌∷◌, true, false, Result, Ok, Err, sym, ap, ◌∙◌, subst}
use Rattle.bmx_script.specs.declared.lines.Line.{Line}
use Rattle.bmx_script.specs.declared.lines.LineKind.{LineKind}
use Rattle.bmx_script.specs.declared.lines.Bad.{Bad}
use Rattle.bmx_script.specs.declared.scripts.Reader.{Reader}
use Rattle.bmx_script.specs.declared.scripts.ScriptError.{ScriptError}
use Rattle.bmx_script.specs.declared.scripts.ScriptError.TheVariants as error
use Rattle.bmx_numerals.specs.declared.words.Misfit.{Misfit}
use Rattle.bmx_script.specs.Grammar.{is_far, is_long, is_skipped, skips, takes, stops}
use Rattle.bmx_script.specs.Reading.{ForBad}
use Rattle.bmx_script.specs.Inside.Parsing.{read_line}
use Rattle.bmx_script.specs.Inside.Verdicts.{Verdict}
use Rattle.bmx_script.specs.Inside.Verdicts as verdict
use Rattle.bmx_script.specs.Inside.Reader.{IsVerdict, IsSound, ReadsOn, cause_of, end_of, verdict_of}
use Rattle.bmx_script.proofs.Exact.{exact}
use Rattle.bmx_script.proofs.Sound.{advanced, sound_skipped, sound_noted, verdict_from}
use Rattle.bmx_script.proofs.scripts.Reader.take.Goals as goal
use Rattle.bmx_script.proofs.scripts.Reader.take.Goals.{then-not-is_skipped+in_ok-what+in-Ok+in_ok-note-in-Ok, else-not-is_skipped}

-- what a line comes to
abbrev Said : Reader → List ℕ → Verdict → Type 0
Said r text v = IsVerdict r.known r.number (end_of r text) text v

-- what is said of a line that is neither too far behind nor skipped
said_of : (r : Reader) (text : List ℕ) (line : Result LineKind Misfit) → IsSound r → is_long r.number (end_of r text) ≡ false → is_skipped r.number text ≡ false → read_line r.known text ≡ line → Said r text (verdict_of line)
said_of r text line sound near here is = subst (λ f. Said r text (verdict_of f)) is (verdict_from r.known r.number (end_of r text) text (read_line r.known text) near here (exact r.known text sound.distinct))

-- reading on behind a line is reading on from it
abbrev Goes : Reader → List ℕ → Reader → Type 0
Goes r text s = (texts : List (List ℕ)) (answer : Result (List Line) Bad) → ReadsOn (advanced s text) texts answer → ReadsOn r (text ∷ texts) answer

-- the script is refused at a line
abbrev Stops : Reader → List ℕ → ScriptError → Type 0
Stops r text = ForBad (λ why. (texts : List (List ℕ)) → ReadsOn r (text ∷ texts) (Err why))

pub returns-then-is_long-clause-bad : goal.returns-then-is_long-clause-bad
returns-then-is_long-clause-bad c =
    subst (Stops c.args.self.now c.args.text.now) (sym c.bad.ensures) (λ texts. stops _ (is_far (sym c.is_long.ensures ∙ c.if-is_long.true)))

pub returns-in-Err-clause-bad : goal.returns-in-Err-clause-bad
returns-in-Err-clause-bad c =
    let r : Reader = c.args.self.now in
    let near : is_long r.number (end_of r c.args.text.now) ≡ false = sym c.is_long.ensures ∙ c.if-is_long.false in
    let here : is_skipped r.number c.args.text.now ≡ false = sym c.is_skipped.ensures ∙ c.if-not-is_skipped.true in
    let said : Said r c.args.text.now (verdict.Wrong (cause_of c.in-Err.why)) = said_of r c.args.text.now (Err c.in-Err.why) c.requires near here (sym c.in_ok-what.ensures ∙ c.in-Err.is) in
    let is : c.bad-in-Err.result ≡ error.Bad (record { line = r.number; cause = cause_of c.in-Err.why }) = c.bad-in-Err.ensures ∙ ap (λ why. error.Bad (record { line = r.number; cause = why })) c.cause_of.ensures in
    subst (Stops r c.args.text.now) (sym is) (λ texts. stops (cause_of c.in-Err.why) said)

pub returns-clause-on : goal.returns-clause-on
returns-clause-on c =
    let r : Reader = c.args.self.now in
    let near : is_long r.number (end_of r c.args.text.now) ≡ false = sym c.is_long.ensures ∙ c.if-is_long.false in
    elim c.if-not-is_skipped.branch [
      | then-not-is_skipped+in_ok-what+in-Ok+in_ok-note-in-Ok w ↦
          (let here : is_skipped r.number c.args.text.now ≡ false = sym c.is_skipped.ensures ∙ w.if-not-is_skipped.true in
          let said : Said r c.args.text.now (verdict.Is w.in-Ok.what) = said_of r c.args.text.now (Ok w.in-Ok.what) c.requires near here (sym w.in_ok-what.ensures ∙ w.in-Ok.is) in
          subst (Goes r c.args.text.now) (sym (w.self-is ∙ w.in_ok-note-in-Ok.ensures)) (λ texts answer on. takes w.in-Ok.what said.0 said.1 said.2 on))
      | else-not-is_skipped w ↦
          (let skipped : is_skipped r.number c.args.text.now ≡ true = sym c.is_skipped.ensures ∙ w.if-not-is_skipped.false in
          subst (Goes r c.args.text.now) (sym w.self-is) (λ texts answer on. skips near skipped on))
    ]

pub returns-clause-sound : goal.returns-clause-sound
returns-clause-sound c =
    let r : Reader = c.args.self.now in
    let Q : Reader → Type 0 = λ s. IsSound (advanced s c.args.text.now) in
    let near : is_long r.number (end_of r c.args.text.now) ≡ false = sym c.is_long.ensures ∙ c.if-is_long.false in
    elim c.if-not-is_skipped.branch [
      | then-not-is_skipped+in_ok-what+in-Ok+in_ok-note-in-Ok w ↦
          (let here : is_skipped r.number c.args.text.now ≡ false = sym c.is_skipped.ensures ∙ w.if-not-is_skipped.true in
          let said : Said r c.args.text.now (verdict.Is w.in-Ok.what) = said_of r c.args.text.now (Ok w.in-Ok.what) c.requires near here (sym w.in_ok-what.ensures ∙ w.in-Ok.is) in
          subst Q (sym (w.self-is ∙ w.in_ok-note-in-Ok.ensures)) (sound_noted r c.args.text.now w.in-Ok.what c.requires near said.2))
      | else-not-is_skipped w ↦
          (let skipped : is_skipped r.number c.args.text.now ≡ true = sym c.is_skipped.ensures ∙ w.if-not-is_skipped.false in
          subst Q (sym w.self-is) (sound_skipped r c.args.text.now c.requires near skipped))
    ]
