-- The words of commands and manuals, and the lines about wrong ones.
use Rattle.std.proofs.Common.{◌≡◌, ℕ, ◌≤◌, Bool, true, false, List, [], ◌∷◌, Option, Some, None, arith, codes, length, refl, sym, subst}
use denote.Ref.{Bor}
use Rattle.std.proofs.lemmas.Bool.{false≢true}
use Rattle.sv_arguments.proofs.Decoding.{same_heads}
use Rattle.sv_arguments.specs.Laws.{TakeTheirWords, TakesManuals}
use Rattle.sv_arguments.specs.Question.{question_words}
use Rattle.sv_arguments.specs.Service.{service_words}
use Rattle.sv_arguments.specs.declared.command.Command.TheVariants.{First, Policy, Uncovered, Audit, Check, Replay, Serve, Run, Ctl, SelfTest, Help, Manual, Version}
use Rattle.sv_arguments.specs.declared.manual.Manual.TheVariants as manual
use Rattle.sv_program.specs.Arguments.{name_words, optional_words}
use Rattle.sv_program.specs.FirstLine.{first_options}

AreBetween : ℕ → ℕ → List (List ℕ) → Type 0
AreBetween least most words = (least ≤ length words) × (length words ≤ most)

counted : (least most : ℕ) (name other : List ℕ) (words own : List (List ℕ)) → name ∷ words ≡ other ∷ own → AreBetween least most own
    → AreBetween least most words
counted least most name other words own same are =
    let Are : List (List ℕ) → Type 0 = λ all. AreBetween least most all in subst Are (sym (same_heads name other words own same).1) are

first_count : (deny : Bool) → AreBetween 0 1 (first_options deny)
unfolding AreBetween
first_count true = (omega arith, omega arith)
first_count false = (omega arith, omega arith)

user_count : (config method target : List ℕ) (user : Option (Bor (List ℕ))) → AreBetween 3 4 (config ∷ method ∷ target ∷ optional_words user)
unfolding AreBetween
user_count config method target None = (omega arith, omega arith)
user_count config method target (Some user) = (omega arith, omega arith)

name_count : (name : Bor (List ℕ)) → AreBetween 1 1 (name_words name)
unfolding AreBetween
name_count name = (omega arith, omega arith)

pub take_their_words : TakeTheirWords
unfolding AreBetween
take_their_words name words (First deny) plain named = counted 0 1 name (codes "first") words (first_options deny) named.0 (first_count deny)
take_their_words name words (Policy question) plain named =
    counted 3 4 name (codes "policy") words (question_words question) named.0
    (user_count question.config.now question.method.now question.target.now question.user)
take_their_words name words (Uncovered config) plain named = counted 1 1 name (codes "uncovered") words (name_words config) named.0 (name_count config)
take_their_words name words (Audit options) plain named = absurd (false≢true plain)
take_their_words name words (Check config) plain named = counted 1 1 name (codes "check") words (name_words config) named.0 (name_count config)
take_their_words name words (Replay config) plain named = counted 1 1 name (codes "replay") words (name_words config) named.0 (name_count config)
take_their_words name words (Serve service) plain named =
    counted 2 2 name (codes "serve") words (service_words service) named.0 (omega arith, omega arith)
take_their_words name words (Run options) plain named = absurd (false≢true plain)
take_their_words name words (Ctl request) plain named = absurd (false≢true plain)
take_their_words name words (SelfTest config) plain named = counted 1 1 name (codes "selftest") words (name_words config) named.0 (name_count config)
take_their_words name words (Help about) plain named = absurd (false≢true plain)
take_their_words name words (Manual manual) plain named = absurd (false≢true plain)
take_their_words name words Version plain ((word, is, calls), none) = counted 0 0 name word words [] is (omega arith, omega arith)

pub takes_manuals : TakesManuals
takes_manuals manual.Commands = refl
takes_manuals manual.CommandsMarkdown = refl
takes_manuals manual.Completion = refl
takes_manuals manual.Keys = refl
takes_manuals manual.KeysPage = refl
takes_manuals manual.KeysMarkdown = refl
