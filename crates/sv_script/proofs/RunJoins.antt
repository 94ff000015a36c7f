-- The request of one more line, and its reaction.
use Rattle.std.proofs.Common.{◌≡◌, ℕ, ◌+◌, List, [], ◌∷◌, ◌++◌, refl, sym, ap, ◌∙◌, append_assoc, append-nil, length, arith, subst, Err}
use Rattle.std.specs.Option.{option_to_list}
use Rattle.sv_script.specs.Asked.{event_of, events_of, moment_behind, moment_behind_all, reaction_text, reactions_text}
use Rattle.sv_run.specs.declared.happening.Reaction.{Reaction}
use Rattle.sv_script.specs.Replay.{FailsAtLast}
use Rattle.sv_script.specs.declared.line.ScriptLine.{ScriptLine}
use Rattle.sv_streams.specs.Calls.{Making, WritesAll}
use Rattle.sv_streams.specs.declared.stream.WriteFailed.{WriteFailed}
use Rattle.sv_streams.proofs.CallJoins.{writes_join}

pub events_more : (moment : ℕ) (said : List ScriptLine) (next : ScriptLine)
    → events_of moment (said ++ next ∷ []) ≡ events_of moment said ++ option_to_list (event_of (moment_behind_all moment said) next)
events_more moment [] next = append-nil (option_to_list (event_of moment next))
events_more moment (first ∷ said) next =
    ap (λ events. option_to_list (event_of moment first) ++ events) (events_more (moment_behind moment first) said next)
    ∙ sym (append_assoc (option_to_list (event_of moment first)) (events_of (moment_behind moment first) said)
    (option_to_list (event_of (moment_behind_all (moment_behind moment first) said) next)))

pub moment_more : (moment : ℕ) (said : List ScriptLine) (next : ScriptLine)
    → moment_behind_all moment (said ++ next ∷ []) ≡ moment_behind (moment_behind_all moment said) next
moment_more moment [] next = refl
moment_more moment (first ∷ said) next = moment_more (moment_behind moment first) said next

pub text_join : (number : ℕ) (reactions more : List Reaction)
    → reactions_text number (reactions ++ more) ≡ reactions_text number reactions ++ reactions_text (number + length reactions) more
text_join number [] more = let same : number ≡ number + 0 = omega arith in ap (λ (n : ℕ). reactions_text n more) same
text_join number (reaction ∷ reactions) more =
    let same : number + 1 + length reactions ≡ number + length (reaction ∷ reactions) = omega arith in
    ap (λ text. reaction_text number reaction ++ text) (text_join (number + 1) reactions more)
    ∙ sym (append_assoc (reaction_text number reaction) (reactions_text (number + 1) reactions) (reactions_text (number + 1 + length reactions) more))
    ∙ ap (λ (n : ℕ). reactions_text number (reaction ∷ reactions) ++ reactions_text n more) same

-- the text of the last event is cut
pub cut_text : {O : Type 0} (takes : Making O) (reactions : List Reaction) (output after : O) → FailsAtLast takes reactions output after
    → (failed : WriteFailed) × WritesAll takes (reactions_text 1 reactions) output (Err failed) after
cut_text takes reactions output after f =
    let number : 1 + length f.earlier ≡ length f.earlier + 1 = omega arith in
    let text : reactions_text 1 f.earlier ++ reaction_text (length f.earlier + 1) f.last ≡ reactions_text 1 reactions =
    ap (λ back. reactions_text 1 f.earlier ++ back) (sym (append-nil (reaction_text (length f.earlier + 1) f.last)))
    ∙ ap (λ (n : ℕ). reactions_text 1 f.earlier ++ reactions_text n (f.last ∷ [])) (sym number)
    ∙ sym (text_join 1 f.earlier (f.last ∷ []))
    ∙ ap (λ all. reactions_text 1 all) (sym f.are) in
    let P : List ℕ → Type 0 = λ t. WritesAll takes t output (Err f.failed) after in (
      f.failed,
      subst P text (writes_join takes (reactions_text 1 f.earlier) (reaction_text (length f.earlier + 1) f.last) output f.between after (Err f.failed) f.writes f.fails),
    )
