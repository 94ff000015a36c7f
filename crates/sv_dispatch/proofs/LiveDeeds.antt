-- The frame of a machine after a dispatch.
use Rattle.std.proofs.Common.{◌≡◌, true, false, [], None, Option, Some, Result, Ok, Err, inr, refl, ap, ◌∙◌, suc, ℕ}
use Rattle.std.specs.Prelude.{OnOk}
use Rattle.sv_dispatch.specs.Did.{Frame, seen, staying}
use Rattle.sv_mapping.specs.declared.kind.Kind.{Kind}
use Rattle.sv_tree.specs.Site.{Site}
use Rattle.sv_tree.specs.State.{State}
use Rattle.sv_tree.specs.Tree.{Tree}
use Rattle.sv_uri.specs.declared.path.Canon.{Canon}

-- Whatever the result, the frame stays except for the state of the journal.
pub but_whole : {A : Type 0} (result : Option A) (before after : Frame) → staying result after ≡ staying result before
    → (record after { whole = false }) ≡ (record before { whole = false })
but_whole (Some value) before after same = ap {A = Frame} (λ frame. record frame { whole = false }) same
but_whole None before after same = same

-- If there is a result, a journal that was whole is still whole.
pub still_whole : {A E : Type 0} (result : Result A E) (before after : Frame) → staying (seen result) after ≡ staying (seen result) before
    → before.whole ≡ true → OnOk result (after.whole ≡ true)
still_whole (Ok value) before after same whole = ap (λ frame. frame.whole) same ∙ whole
still_whole (Err refusal) before after same whole = tt

-- Memory ran out before the dispatch began.
pub not_begun : (site : Site) (room : ℕ) (kind : Kind) (canon : Canon) (state : State) → Tree site (suc room) kind canon state [] state None
unfolding Tree
not_begun site room kind canon state = inr ((refl, inr (refl, refl)), refl)
