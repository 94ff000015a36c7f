-- Words and arguments have only one meaning.
use Rattle.std.proofs.Common.{◌≡◌, ℕ, List, [], ◌∷◌, Option, Some, None, inl, inr, if◌then◌else◌, refl, sym, ap, drop, subst, ◌∙◌}
use Rattle.std.proofs.lemmas.Bool.{false≢true}
use Rattle.std.specs.Prelude.{codes}
use Rattle.std.specs.Str.{bytes_eq}
use Rattle.sv_arguments.proofs.Called.{by_name}
use Rattle.sv_arguments.proofs.Decoding.{same_heads}
use Rattle.sv_arguments.specs.Command.{AreWordsOf, AskAbout, AskForHelp}
use Rattle.sv_arguments.specs.Laws.{NameOne, topic_of}
use Rattle.sv_arguments.specs.Manual.{manual_words}
use Rattle.sv_arguments.specs.declared.manual.Manual.{Manual}
use Rattle.sv_arguments.specs.declared.manual.Manual.TheVariants as manual
use Rattle.sv_arguments.specs.Topics.{IsCalled, IsHelpOption, topic_name}
use Rattle.sv_arguments.specs.Values.{Finds}
use Rattle.sv_arguments.specs.declared.command.Command.{Command}
use Rattle.sv_arguments.specs.declared.command.Command.TheVariants as command
use Rattle.sv_arguments.specs.declared.topic.Topic.{Topic}
use Rattle.sv_arguments.specs.declared.topic.Topic.TheVariants.{First, Policy, Uncovered, Audit, Check, Replay, Serve, Run, Ctl, SelfTest, Help, Version}

-- the command that a word calls
topic_at : List ℕ → Option Topic
topic_at word =
    if bytes_eq word (codes "first") then Some First
    else if bytes_eq word (codes "policy") then Some Policy
    else if bytes_eq word (codes "uncovered") then Some Uncovered
    else if bytes_eq word (codes "audit") then Some Audit
    else if bytes_eq word (codes "check") then Some Check
    else if bytes_eq word (codes "replay") then Some Replay
    else if bytes_eq word (codes "serve") then Some Serve
    else if bytes_eq word (codes "run") then Some Run
    else if bytes_eq word (codes "ctl") then Some Ctl
    else if bytes_eq word (codes "selftest") then Some SelfTest
    else if bytes_eq word (codes "version") then Some Version
    else if bytes_eq word (codes "--version") then Some Version
    else Some Help

topic_at-called : (word : List ℕ) (topic : Topic) → IsCalled word topic → topic_at word ≡ Some topic
unfolding topic_at
topic_at-called word First same = ap topic_at same
topic_at-called word Policy same = ap topic_at same
topic_at-called word Uncovered same = ap topic_at same
topic_at-called word Audit same = ap topic_at same
topic_at-called word Check same = ap topic_at same
topic_at-called word Replay same = ap topic_at same
topic_at-called word Serve same = ap topic_at same
topic_at-called word Run same = ap topic_at same
topic_at-called word Ctl same = ap topic_at same
topic_at-called word SelfTest same = ap topic_at same
topic_at-called word Help (inl same) = ap topic_at same
topic_at-called word Help (inr (inl same)) = ap topic_at same
topic_at-called word Help (inr (inr same)) = ap topic_at same
topic_at-called word Version (inl same) = ap topic_at same
topic_at-called word Version (inr same) = ap topic_at same

pub called_one : (word : List ℕ) (a b : Topic) → IsCalled word a → IsCalled word b → a ≡ b
called_one word a b one other = let e : Some a ≡ Some b = sym (topic_at-called word a one) ∙ topic_at-called word b other in cc

pub named_one : (word : List ℕ) (a b : Topic) → word ≡ topic_name a → word ≡ topic_name b → a ≡ b
named_one word a b one other = called_one word a b (by_name word a one) (by_name word b other)

pub finds_one : {A : Type 0} (Is : A → Type 0) → ((a b : A) → Is a → Is b → a ≡ b) → (one other : Option A) → Finds Is one → Finds Is other → one ≡ other
finds_one Is unique None None a b = refl
finds_one Is unique None (Some y) a b = absurd (false≢true (a.1 y b.0))
finds_one Is unique (Some x) None a b = absurd (false≢true (b.1 x a.0))
finds_one Is unique (Some x) (Some y) a b = ap Some (unique x y a.0 b.0)

-- no command has the name of an option for help
no_option : (word : List ℕ) (topic : Topic) → word ≡ topic_name topic → IsHelpOption word → ⊥
no_option word topic same option =
    let Is : Topic → Type 0 = λ own. word ≡ topic_name own in
    not_help word (subst Is (called_one word topic Help (by_name word topic same) (inr option)) same) option
  where
    not_help : (word : List ℕ) → word ≡ codes "help" → IsHelpOption word → ⊥
    not_help word same (inl is) = cc
    not_help word same (inr is) = cc

one_about : (word next : List ℕ) (a b : Topic) → AskAbout word next a → AskAbout word next b → a ≡ b
one_about word next a b (inl (help, one)) (inl (again, other)) = named_one next a b one other
one_about word next a b (inl (help, one)) (inr (other, option)) = absurd (no_option next a one option)
one_about word next a b (inr (one, option)) (inl (help, other)) = absurd (no_option next b other option)
one_about word next a b (inr (one, option)) (inr (other, again)) = named_one word a b one other

one_help : (arguments : List (List ℕ)) (a b : Option Topic) → AskForHelp arguments a → AskForHelp arguments b → a ≡ b
one_help arguments None None one other = refl
one_help arguments None (Some b) (word, is, calls) (first, next, same, about) = cc
one_help arguments (Some a) None (first, next, same, about) (word, is, calls) = cc
one_help arguments (Some a) (Some b) (word, next, is, one) (first, second, same, other) =
    let heads = same_heads word first (next ∷ []) (second ∷ []) (sym is ∙ same) in
    let First : List ℕ → Type 0 = λ text. AskAbout text next b in
    let Second : List ℕ → Type 0 = λ text. AskAbout first text b in
    ap Some (one_about word next a b one (subst First (sym heads.0) (subst Second (sym (same_heads next second [] [] heads.1).0) other)))

Begins : List (List ℕ) → Topic → Type 0
Begins arguments topic = (word : List ℕ) × (rest : List (List ℕ)) × (arguments ≡ word ∷ rest) × IsCalled word topic

-- the words of a command begin with one that calls it
begins : (arguments : List (List ℕ)) (one : Command) → AreWordsOf arguments one → Begins arguments (topic_of one)
unfolding Begins
begins arguments (command.First deny) is = (_, _, is, refl)
begins arguments (command.Policy question) is = (_, _, is, refl)
begins arguments (command.Uncovered config) is = (_, _, is, refl)
begins arguments (command.Audit options) (rest, is, asked) = (_, rest, is, refl)
begins arguments (command.Check config) is = (_, _, is, refl)
begins arguments (command.Replay config) is = (_, _, is, refl)
begins arguments (command.Serve service) is = (_, _, is, refl)
begins arguments (command.Run options) (rest, is, asked) = (_, rest, is, refl)
begins arguments (command.Ctl request) (rest, is, asked) = (_, rest, is, refl)
begins arguments (command.SelfTest config) is = (_, _, is, refl)
begins arguments (command.Help about) is = absurd is
begins arguments (command.Manual manual) is = (_, _, is, inl refl)
begins arguments command.Version (word, is, calls) = (word, [], is, calls)

one_topic : (arguments : List (List ℕ)) (a b : Topic) → Begins arguments a → Begins arguments b → a ≡ b
unfolding Begins
one_topic arguments a b (word, rest, is, calls) (first, more, same, others) =
    let Calls : List ℕ → Type 0 = λ text. IsCalled text b in
    called_one word a b calls (subst Calls (sym (same_heads word first rest more (sym is ∙ same)).0) others)

-- the manual of some words
manual_at : List (List ℕ) → Manual
manual_at (first ∷ format ∷ []) =
    if bytes_eq format (codes "man") then manual.Commands else if bytes_eq format (codes "md") then manual.CommandsMarkdown else manual.Completion
manual_at (first ∷ second ∷ format ∷ rest) = if bytes_eq format (codes "man") then manual.KeysPage else manual.KeysMarkdown
manual_at words = manual.Keys

manual_at-words : (given : Manual) → manual_at (manual_words given) ≡ given
unfolding manual_at
manual_at-words manual.Commands = refl
manual_at-words manual.CommandsMarkdown = refl
manual_at-words manual.Completion = refl
manual_at-words manual.Keys = refl
manual_at-words manual.KeysPage = refl
manual_at-words manual.KeysMarkdown = refl

one_manual : (a b : Manual) → manual_words a ≡ manual_words b → a ≡ b
one_manual a b same = sym (manual_at-words a) ∙ ap manual_at same ∙ manual_at-words b

pub one_command : NameOne
one_command arguments (command.Help a) (command.Help b) one other = one_help arguments a b one other
one_command arguments (command.Help a) b one other = absurd (other.1 a one)
one_command arguments a (command.Help b) one other = absurd (one.1 b other)
one_command arguments (command.Manual a) (command.Manual b) one other = one_manual a b (ap (drop 1) (sym one.0 ∙ other.0))
one_command arguments a b one other =
    one_topic arguments (topic_of a) (topic_of b) (begins arguments a one.0) (begins arguments b other.0)
