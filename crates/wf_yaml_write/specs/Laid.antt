-- The text of lines that stand at an indentation, as the code writes it.
use Rattle.std.specs.Prelude.{ℕ, List, [], ◌∷◌, ◌++◌, replicate}
use Rattle.wf_yaml_line.specs.Marks.{space, newline}

-- lines that stand at an indentation
abbrev pub indented : ℕ → List (List ℕ) → List ℕ
indented n [] = []
indented n (line ∷ lines) = replicate n space ++ (line ++ newline ∷ indented n lines)

-- the same, where the first line goes on in a line that was begun
abbrev pub laid : ℕ → List (List ℕ) → List ℕ
laid n [] = []
laid n (line ∷ lines) = line ++ newline ∷ indented n lines
