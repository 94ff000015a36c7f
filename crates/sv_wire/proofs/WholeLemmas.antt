-- Reading a body by its length.
use Rattle.std.proofs.Common.{◌≡◌, [], ◌++◌, length, sym, ap, ◌∙◌, arith, append-nil, length-append}
use Rattle.sv_wire.specs.Body.{read_length}
use Rattle.sv_wire.specs.Chunks.{complete, unfinished}
use Rattle.sv_wire.proofs.ListLemmas.{drop_behind, take_behind}
use Rattle.sv_wire.proofs.MachineLemmas.{read_length_long, read_length_short}
use Rattle.sv_wire.specs.RoundTrip.{CutWholeIsAwaited, WholeIsReadBack}

pub whole_is_read_back : WholeIsReadBack
whole_is_read_back bytes later body =
    let n = length bytes in
    let is : read_length [] n (bytes ++ later) ≡ complete bytes later =
    read_length_long [] n (bytes ++ later) (omega (arith, length-append bytes later))
    ∙ (λ i. complete ((take_behind bytes later n 0 (omega arith) ∙ append-nil bytes) i) (drop_behind bytes later n 0 (omega arith) i)) in
    (λ reads. reads ∙ is, λ same. same ∙ sym is)

pub cut_whole_is_awaited : CutWholeIsAwaited
cut_whole_is_awaited bytes came lost body is some =
    let short : read_length [] (length bytes) came ≡ unfinished =
    read_length_short [] (length bytes) came (omega (arith, some, length-append came lost, ap length is)) in
    (λ reads. reads ∙ short, λ same. same ∙ sym short)
