use Rattle.std.proofs.Common.{refl}
use Rattle.sv_mapping.proofs.Added.{none_added}
use Rattle.sv_mapping.proofs.pattern_index.Index.new.Goals as goal

pub returns : goal.returns
returns c = none_added _ c.in_ok-new.ensures.root c.in_ok-new.ensures.children c.in_ok-new.ensures.exact c.in_ok-new.ensures.prefix (λ wanted. rw c.new-2.ensures.empty refl) refl
