use Rattle.std.proofs.Common.{◌≡◌, arith, length, string_bytes}
use Rattle.sv_arguments.proofs.Walking.{words_before}
use Rattle.sv_arguments.proofs.given.before.Goals as goal

pub returns : goal.returns
returns c = λ front same.
    let len : length c.split_at.result.1.now ≡ length c.args.rest.now = omega (arith, c.split_at.ensures.back_len, c.requires) in
    words_before string_bytes c.args.words.now c.split_at.result.0.now c.split_at.result.1.now c.args.rest.now front c.split_at.ensures.by_index.0 len same
