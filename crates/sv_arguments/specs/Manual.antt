-- The manuals that arguments ask for.
use Rattle.std.specs.Prelude.{ℕ, List, [], ◌∷◌, codes}
use Rattle.sv_arguments.specs.declared.manual.Manual.{Manual}
use Rattle.sv_arguments.specs.declared.manual.Manual.TheVariants.{Commands, CommandsMarkdown, Completion, Keys, KeysPage, KeysMarkdown}

-- the words after `help`
abbrev pub manual_words : Manual → List (List ℕ)
manual_words Commands = codes "--format" ∷ codes "man" ∷ []
manual_words CommandsMarkdown = codes "--format" ∷ codes "md" ∷ []
manual_words Completion = codes "--format" ∷ codes "bash" ∷ []
manual_words Keys = codes "config" ∷ []
manual_words KeysPage = codes "config" ∷ codes "--format" ∷ codes "man" ∷ []
manual_words KeysMarkdown = codes "config" ∷ codes "--format" ∷ codes "md" ∷ []
