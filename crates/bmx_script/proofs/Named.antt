-- The bunches that a line names are known, and their words stay as they are behind later lines.
use Rattle.std.proofs.Common.{◌≡◌, ℕ, ◌+◌, ◌<◌, ◌≤◌, Bool, true, ◌&&◌, nat_lt, nat_le, List, [], ◌∷◌, ◌++◌, length, refl, ap, sym, ◌∙◌, ⊎_elim, arith}
use Rattle.std.specs.List.{list_all, join_with_byte}
use Rattle.std.proofs.lemmas.Bool.{and_parts, and_from, ltb-true, cases_lt}
use Rattle.std.proofs.lemmas.List.Folds.{list_all-append}
use Rattle.std.proofs.Math.ListN.{get_or-append, length-append}
use Rattle.std.proofs.Math.Seq.{get_or-append_seam}
use Rattle.bmx_types.specs.declared.commands.Operand.{Operand}
use Rattle.bmx_types.specs.declared.commands.Operand.TheVariants as operand
use Rattle.bmx_types.specs.declared.commands.Command.{Command}
use Rattle.bmx_types.specs.declared.commands.Command.TheVariants as command
use Rattle.bmx_types.specs.Integers.{is_i64}
use Rattle.bmx_script.specs.declared.knowledge.Knowledge.{Knowledge}
use Rattle.bmx_script.specs.declared.lines.Line.{Line}
use Rattle.bmx_script.specs.declared.lines.LineKind.{LineKind}
use Rattle.bmx_script.specs.declared.lines.LineKind.TheVariants as line
use Rattle.bmx_script.specs.Spelling.{word_of, operand_word, command_words, line_words, spelling}
use Rattle.bmx_script.specs.Grammar.{is_bunch_word, is_built, is_no_file, named_by, named_in, named_on, fits_operand, fits_command, in_range, known_after, known_after_all}
use Rattle.bmx_script.proofs.Plain.{list_all_then, are_words}

-- ## what is named is known

abbrev pub are_below : ℕ → List ℕ → Bool
are_below n bs = list_all (λ b. nat_lt b n) bs

both_below : (n : ℕ) (bs cs : List ℕ) → are_below n bs ≡ true → are_below n cs ≡ true → are_below n (bs ++ cs) ≡ true
both_below n bs cs p q = list_all-append (λ b. nat_lt b n) bs cs ∙ and_from (are_below n bs) (are_below n cs) p q

below_both : (n : ℕ) (bs cs : List ℕ) → are_below n (bs ++ cs) ≡ true → (are_below n bs ≡ true) × (are_below n cs ≡ true)
below_both n bs cs h = and_parts (are_below n bs) (are_below n cs) (sym (list_all-append (λ b. nat_lt b n) bs cs) ∙ h)

operand_below : (n : ℕ) (o : Operand) → fits_operand n o ≡ true → are_below n (named_by o) ≡ true
operand_below n (operand.Register r) h = refl
operand_below n (operand.Anchor b) h = and_from (nat_lt b n) true h refl
operand_below n (operand.Int z) h = refl
operand_below n operand.Null h = refl

command_below : (n : ℕ) (c : Command) → fits_command n c ≡ true → are_below n (named_in c) ≡ true
command_below n (command.New r b s) h =
    let rest : (nat_lt b n && nat_le s 32) ≡ true = (and_parts (nat_lt r 16) (nat_lt b n && nat_le s 32) h).1 in
    and_from (nat_lt b n) true (and_parts (nat_lt b n) (nat_le s 32) rest).0 refl
command_below n (command.Copy r v) h = operand_below n v (and_parts (nat_lt r 16) (fits_operand n v) h).1
command_below n (command.Drop r) h = refl
command_below n (command.Read on) h = operand_below n on h
command_below n (command.Write on) h = operand_below n on h
command_below n (command.Done on) h = operand_below n on h
command_below n (command.Set on i v) h =
    let parts : (fits_operand n on ≡ true) × ((nat_lt i 256 && fits_operand n v) ≡ true) = and_parts (fits_operand n on) (nat_lt i 256 && fits_operand n v) h in
    both_below n (named_by on) (named_by v) (operand_below n on parts.0) (operand_below n v (and_parts (nat_lt i 256) (fits_operand n v) parts.1).1)
command_below n (command.Add on i z) h = operand_below n on (and_parts (fits_operand n on) (nat_lt i 256 && is_i64 z) h).0
command_below n (command.Get r on i) h =
    let rest : (fits_operand n on && nat_lt i 256) ≡ true = (and_parts (nat_lt r 16) (fits_operand n on && nat_lt i 256) h).1 in
    operand_below n on (and_parts (fits_operand n on) (nat_lt i 256) rest).0
command_below n (command.Show on i) h = operand_below n on (and_parts (fits_operand n on) (nat_lt i 256) h).0
command_below n (command.Same l r) h =
    let parts : (fits_operand n l ≡ true) × (fits_operand n r ≡ true) = and_parts (fits_operand n l) (fits_operand n r) h in
    both_below n (named_by l) (named_by r) (operand_below n l parts.0) (operand_below n r parts.1)

pub named_below : (k : Knowledge) (what : LineKind) → in_range k what ≡ true → are_below (length k.bunches) (named_on what) ≡ true
named_below k line.Version h = refl
named_below k (line.Nodes count) h = refl
named_below k (line.Bunch w file) h = refl
named_below k (line.Segments l) h = refl
named_below k (line.Table f t n fate) h = refl
named_below k (line.TablesLose e) h = refl
named_below k (line.Save b f) h = and_from (nat_lt b (length k.bunches)) true h refl
named_below k line.Phase h = refl
named_below k line.Quiet h = refl
named_below k (line.Do node c) h = command_below (length k.bunches) c (and_parts (nat_lt node k.nodes) (fits_command (length k.bunches) c) h).1
named_below k (line.Collect node b) h = and_from (nat_lt b (length k.bunches)) true (and_parts (nat_lt node k.nodes) (nat_lt b (length k.bunches)) h).1 refl
named_below k (line.Sweep node) h = refl
named_below k line.Settle h = refl

-- ## lists that agree on what is named spell the same

abbrev pub Agree : ℕ → List (List ℕ) → List (List ℕ) → Type 0
Agree n ws vs = (b : ℕ) → b < n → word_of ws b ≡ word_of vs b

word_agrees : (n : ℕ) (ws vs : List (List ℕ)) (b : ℕ) → Agree n ws vs → are_below n (b ∷ []) ≡ true → word_of ws b ≡ word_of vs b
word_agrees n ws vs b same h = same b (ltb-true b n (and_parts (nat_lt b n) true h).0)

operand_agrees : (n : ℕ) (ws vs : List (List ℕ)) (o : Operand) → Agree n ws vs → are_below n (named_by o) ≡ true → operand_word ws o ≡ operand_word vs o
operand_agrees n ws vs (operand.Register r) same h = refl
operand_agrees n ws vs (operand.Anchor b) same h = ap (λ w. 64 ∷ w) (word_agrees n ws vs b same h)
operand_agrees n ws vs (operand.Int z) same h = refl
operand_agrees n ws vs operand.Null same h = refl

command_agrees : (n : ℕ) (ws vs : List (List ℕ)) (c : Command) → Agree n ws vs → are_below n (named_in c) ≡ true → command_words ws c ≡ command_words vs c
command_agrees n ws vs (command.New r b s) same h = cc (word_agrees n ws vs b same h)
command_agrees n ws vs (command.Copy r v) same h = cc (operand_agrees n ws vs v same h)
command_agrees n ws vs (command.Drop r) same h = refl
command_agrees n ws vs (command.Read on) same h = cc (operand_agrees n ws vs on same h)
command_agrees n ws vs (command.Write on) same h = cc (operand_agrees n ws vs on same h)
command_agrees n ws vs (command.Done on) same h = cc (operand_agrees n ws vs on same h)
command_agrees n ws vs (command.Set on i v) same h =
    let both : (are_below n (named_by on) ≡ true) × (are_below n (named_by v) ≡ true) = below_both n (named_by on) (named_by v) h in
    cc (operand_agrees n ws vs on same both.0, operand_agrees n ws vs v same both.1)
command_agrees n ws vs (command.Add on i z) same h = cc (operand_agrees n ws vs on same h)
command_agrees n ws vs (command.Get r on i) same h = cc (operand_agrees n ws vs on same h)
command_agrees n ws vs (command.Show on i) same h = cc (operand_agrees n ws vs on same h)
command_agrees n ws vs (command.Same l r) same h =
    let both : (are_below n (named_by l) ≡ true) × (are_below n (named_by r) ≡ true) = below_both n (named_by l) (named_by r) h in
    cc (operand_agrees n ws vs l same both.0, operand_agrees n ws vs r same both.1)

words_agree : (n : ℕ) (ws vs : List (List ℕ)) (what : LineKind) → Agree n ws vs → are_below n (named_on what) ≡ true → line_words ws what ≡ line_words vs what
words_agree n ws vs line.Version same h = refl
words_agree n ws vs (line.Nodes count) same h = refl
words_agree n ws vs (line.Bunch w file) same h = refl
words_agree n ws vs (line.Segments l) same h = refl
words_agree n ws vs (line.Table f t m fate) same h = refl
words_agree n ws vs (line.TablesLose e) same h = refl
words_agree n ws vs (line.Save b f) same h = cc (word_agrees n ws vs b same h)
words_agree n ws vs line.Phase same h = refl
words_agree n ws vs line.Quiet same h = refl
words_agree n ws vs (line.Do node c) same h = cc (command_agrees n ws vs c same h)
words_agree n ws vs (line.Collect node b) same h = cc (word_agrees n ws vs b same h)
words_agree n ws vs (line.Sweep node) same h = refl
words_agree n ws vs line.Settle same h = refl

pub line_agrees : (n : ℕ) (ws vs : List (List ℕ)) (what : LineKind) → Agree n ws vs → are_below n (named_on what) ≡ true → spelling ws what ≡ spelling vs what
line_agrees n ws vs what same h = ap (λ x. join_with_byte 32 x) (words_agree n ws vs what same h)

-- ## what is known stays known

kept_by : (k : Knowledge) (what : LineKind) (b : ℕ) → b < length k.bunches → word_of (known_after k what).bunches b ≡ word_of k.bunches b
kept_by k line.Version b h = refl
kept_by k (line.Nodes count) b h = refl
kept_by k (line.Bunch w file) b h = get_or-append k.bunches (w ∷ []) [] b h
kept_by k (line.Segments l) b h = refl
kept_by k (line.Table f t n fate) b h = refl
kept_by k (line.TablesLose e) b h = refl
kept_by k (line.Save c f) b h = refl
kept_by k line.Phase b h = refl
kept_by k line.Quiet b h = refl
kept_by k (line.Do node c) b h = refl
kept_by k (line.Collect node c) b h = refl
kept_by k (line.Sweep node) b h = refl
kept_by k line.Settle b h = refl

more_by : (k : Knowledge) (what : LineKind) → length k.bunches ≤ length (known_after k what).bunches
more_by k line.Version = omega arith
more_by k (line.Nodes count) = omega arith
more_by k (line.Bunch w file) = omega (arith, length-append k.bunches (w ∷ []))
more_by k (line.Segments l) = omega arith
more_by k (line.Table f t n fate) = omega arith
more_by k (line.TablesLose e) = omega arith
more_by k (line.Save c f) = omega arith
more_by k line.Phase = omega arith
more_by k line.Quiet = omega arith
more_by k (line.Do node c) = omega arith
more_by k (line.Collect node c) = omega arith
more_by k (line.Sweep node) = omega arith
more_by k line.Settle = omega arith

pub kept : (k : Knowledge) (ls : List Line) → Agree (length k.bunches) (known_after_all k ls).bunches k.bunches
kept k [] b h = refl
kept k (l ∷ ls) b h = kept (known_after k l.what) ls b (omega (arith, more_by k l.what)) ∙ kept_by k l.what b h

-- ## bunches are called by bunch words

pub record IsProper (k : Knowledge) : Type 0 where
  pub proper : (b : ℕ) → b < length k.bunches → is_bunch_word (word_of k.bunches b) ≡ true

with_word : (ws : List (List ℕ)) (w : List ℕ) → ((b : ℕ) → b < length ws → is_bunch_word (word_of ws b) ≡ true) → is_bunch_word w ≡ true
    → (b : ℕ) → b < length (ws ++ w ∷ []) → is_bunch_word (word_of (ws ++ w ∷ []) b) ≡ true
with_word ws w proper new b h =
    let long : length (ws ++ w ∷ []) ≡ length ws + 1 = length-append ws (w ∷ []) in
    ⊎_elim
    (λ (below : b < length ws). rw (get_or-append ws (w ∷ []) [] b below) (proper b below))
    (λ (above : length ws ≤ b). let last : b ≡ length ws = omega arith in rw (last, get_or-append_seam ws w [] []) new)
    (cases_lt b (length ws))

pub proper_after : (k : Knowledge) (what : LineKind) → IsProper k → is_built what ≡ true → IsProper (known_after k what)
proper_after k line.Version p built = record { proper = p.proper }
proper_after k (line.Nodes count) p built = record { proper = p.proper }
proper_after k (line.Bunch w file) p built = record { proper = with_word k.bunches w p.proper (and_parts (is_no_file file) (is_bunch_word w) built).1 }
proper_after k (line.Segments l) p built = record { proper = p.proper }
proper_after k (line.Table f t n fate) p built = record { proper = p.proper }
proper_after k (line.TablesLose e) p built = record { proper = p.proper }
proper_after k (line.Save c f) p built = record { proper = p.proper }
proper_after k line.Phase p built = record { proper = p.proper }
proper_after k line.Quiet p built = record { proper = p.proper }
proper_after k (line.Do node c) p built = record { proper = p.proper }
proper_after k (line.Collect node c) p built = record { proper = p.proper }
proper_after k (line.Sweep node) p built = record { proper = p.proper }
proper_after k line.Settle p built = record { proper = p.proper }

-- so what a line names are bunch words
pub named_words : (k : Knowledge) (what : LineKind) → IsProper k → in_range k what ≡ true → are_words k.bunches (named_on what) ≡ true
named_words k what p range =
    list_all_then (λ b. nat_lt b (length k.bunches)) (λ b. is_bunch_word (word_of k.bunches b)) (λ b h. p.proper b (ltb-true b (length k.bunches) h)) (named_on what) (named_below k what range)
