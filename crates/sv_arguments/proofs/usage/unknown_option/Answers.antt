use Rattle.std.proofs.Common.{ℕ, List, ◌++◌, Option, ap, codes, ◌∙◌}
use Rattle.sv_arguments.proofs.Joining.{joined}
use Rattle.sv_arguments.proofs.usage.unknown_option.Goals as goal
use Rattle.sv_arguments.specs.Near.{near}
use Rattle.sv_arguments.specs.Settings.{option_words}
use Rattle.sv_arguments.specs.UnknownNames.{hint}
use Rattle.sv_arguments.specs.Usage.{no_option, options_listing}
use Rattle.sv_program.specs.Shown.{quoted}

pub returns : goal.returns
returns c =
    c.from_string.ensures ∙ c.in_ok-format.ensures.ok
    ∙ ap (λ (front : List ℕ). front ++ (c.in_ok-word.word ++ (codes "; " ++ c.in_ok-hint.hint))) c.no_option-front.ensures
    ∙ joined (no_option c.args.set) (quoted c.args.word.now) (codes "; ")
    (hint (near (option_words c.args.set) c.args.word.now) (options_listing c.args.set)) c.in_ok-word.word c.in_ok-hint.hint
    c.in_ok-word.ensures
    (c.in_ok-hint.ensures ∙ ap (λ (name : Option (List ℕ)). hint name c.listing.result.now) c.in_ok-name.ensures
    ∙ ap (λ (listing : List ℕ). hint (near (option_words c.args.set) c.args.word.now) listing) c.listing.ensures)
