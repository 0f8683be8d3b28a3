-- Lists of nodes that rise: each node once, the smaller number first.
use Rattle.std.specs.Prelude.{ℕ, not, ◌==◌, nat_lt, if◌then◌else◌, List, [], ◌∷◌, filter}

-- a rising list with one node more; the list itself where it has that node
abbrev pub nodes_with : ℕ → List ℕ → List ℕ
nodes_with node [] = node ∷ []
nodes_with node (n ∷ ns) =
    if node == n then n ∷ ns else (if nat_lt node n then node ∷ n ∷ ns else n ∷ nodes_with node ns)

-- a list without one node
abbrev pub nodes_without : ℕ → List ℕ → List ℕ
nodes_without node nodes = filter (λ n. not (n == node)) nodes
