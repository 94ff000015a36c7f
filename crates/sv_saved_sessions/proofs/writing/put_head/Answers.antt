use Rattle.std.proofs.Common.{Err, Ok, ◌++◌}
use Rattle.std.proofs.lemmas.Result.{err_from_is_err_and}
use Rattle.sv_saved_sessions.specs.Content.{constraint_bytes, user_bytes}
use Rattle.sv_saved_sessions.specs.Encoding.{list_bytes, number_bytes}
use Rattle.sv_saved_sessions.proofs.ContentSteps.{begin_bytes, numbers_bytes}
use Rattle.sv_saved_sessions.proofs.Passing.{and_then, failed_before}
use Rattle.sv_saved_sessions.proofs.writing.put_head.Goals as goal

pub returns-in_err-put_begin-clause-passes : goal.returns-in_err-put_begin-clause-passes
returns-in_err-put_begin-clause-passes g c =
    let step0 = begin_bytes c.args.moment c.args.head.now.path.now in
    let step1 = list_bytes user_bytes c.args.head.now.users.now in
    let step2 = list_bytes constraint_bytes c.args.head.now.declared.now in
    let step3 = list_bytes constraint_bytes c.args.head.now.constraints.now in
    let step4 = number_bytes c.args.head.now.greatest in
    let step5 = numbers_bytes c.args.sessions.now.store in
    let rest4 = step5 in
    let rest3 = step4 ++ rest4 in
    let rest2 = step3 ++ rest3 in
    let rest1 = step2 ++ rest2 in
    let rest0 = step1 ++ rest1 in
    let p = err_from_is_err_and c.from_residual.result c.from_residual.ensures.1 in
    rw (p.1, p.2) (failed_before g.O.Stream.makes step0 rest0 c.args.pieces.now c.put_begin.new.pieces c.args.sink.now c.put_begin.new.sink c.in_err-put_begin.field-0.0 c.in_err-put_begin.ensures.passes)

pub returns-in_err-put_users-clause-passes : goal.returns-in_err-put_users-clause-passes
returns-in_err-put_users-clause-passes g c =
    let step0 = begin_bytes c.args.moment c.args.head.now.path.now in
    let step1 = list_bytes user_bytes c.args.head.now.users.now in
    let step2 = list_bytes constraint_bytes c.args.head.now.declared.now in
    let step3 = list_bytes constraint_bytes c.args.head.now.constraints.now in
    let step4 = number_bytes c.args.head.now.greatest in
    let step5 = numbers_bytes c.args.sessions.now.store in
    let rest4 = step5 in
    let rest3 = step4 ++ rest4 in
    let rest2 = step3 ++ rest3 in
    let rest1 = step2 ++ rest2 in
    let rest0 = step1 ++ rest1 in
    let p = err_from_is_err_and c.from_residual-in_err-put_users.result c.from_residual-in_err-put_users.ensures.1 in
    rw (p.1, p.2) (and_then g.O.Stream.makes step0 rest0 c.args.pieces.now c.put_begin.new.pieces c.put_users.new.pieces c.args.sink.now c.put_begin.new.sink c.put_users.new.sink (Err c.in_err-put_users.field-0.0)
    c.in_ok-put_begin.ensures.passes
    (failed_before g.O.Stream.makes step1 rest1 c.put_begin.new.pieces c.put_users.new.pieces c.put_begin.new.sink c.put_users.new.sink c.in_err-put_users.field-0.0 c.in_err-put_users.ensures.passes))

pub returns-in_err-put_list-clause-passes : goal.returns-in_err-put_list-clause-passes
returns-in_err-put_list-clause-passes g c =
    let step0 = begin_bytes c.args.moment c.args.head.now.path.now in
    let step1 = list_bytes user_bytes c.args.head.now.users.now in
    let step2 = list_bytes constraint_bytes c.args.head.now.declared.now in
    let step3 = list_bytes constraint_bytes c.args.head.now.constraints.now in
    let step4 = number_bytes c.args.head.now.greatest in
    let step5 = numbers_bytes c.args.sessions.now.store in
    let rest4 = step5 in
    let rest3 = step4 ++ rest4 in
    let rest2 = step3 ++ rest3 in
    let rest1 = step2 ++ rest2 in
    let rest0 = step1 ++ rest1 in
    let p = err_from_is_err_and c.from_residual-in_err-put_list.result c.from_residual-in_err-put_list.ensures.1 in
    rw (p.1, p.2) (and_then g.O.Stream.makes step0 rest0 c.args.pieces.now c.put_begin.new.pieces c.put_list.new.self c.args.sink.now c.put_begin.new.sink c.put_list.new.sink (Err c.in_err-put_list.field-0.0)
    c.in_ok-put_begin.ensures.passes
    (and_then g.O.Stream.makes step1 rest1 c.put_begin.new.pieces c.put_users.new.pieces c.put_list.new.self c.put_begin.new.sink c.put_users.new.sink c.put_list.new.sink (Err c.in_err-put_list.field-0.0)
    c.in_ok-put_users.ensures.passes
    (failed_before g.O.Stream.makes step2 rest2 c.put_users.new.pieces c.put_list.new.self c.put_users.new.sink c.put_list.new.sink c.in_err-put_list.field-0.0 c.in_err-put_list.ensures.passes)))

pub returns-in_err-put_list-2-clause-passes : goal.returns-in_err-put_list-2-clause-passes
returns-in_err-put_list-2-clause-passes g c =
    let step0 = begin_bytes c.args.moment c.args.head.now.path.now in
    let step1 = list_bytes user_bytes c.args.head.now.users.now in
    let step2 = list_bytes constraint_bytes c.args.head.now.declared.now in
    let step3 = list_bytes constraint_bytes c.args.head.now.constraints.now in
    let step4 = number_bytes c.args.head.now.greatest in
    let step5 = numbers_bytes c.args.sessions.now.store in
    let rest4 = step5 in
    let rest3 = step4 ++ rest4 in
    let rest2 = step3 ++ rest3 in
    let rest1 = step2 ++ rest2 in
    let rest0 = step1 ++ rest1 in
    let p = err_from_is_err_and c.from_residual-in_err-put_list-2.result c.from_residual-in_err-put_list-2.ensures.1 in
    rw (p.1, p.2) (and_then g.O.Stream.makes step0 rest0 c.args.pieces.now c.put_begin.new.pieces c.put_list-2.new.self c.args.sink.now c.put_begin.new.sink c.put_list-2.new.sink (Err c.in_err-put_list-2.field-0.0)
    c.in_ok-put_begin.ensures.passes
    (and_then g.O.Stream.makes step1 rest1 c.put_begin.new.pieces c.put_users.new.pieces c.put_list-2.new.self c.put_begin.new.sink c.put_users.new.sink c.put_list-2.new.sink (Err c.in_err-put_list-2.field-0.0)
    c.in_ok-put_users.ensures.passes
    (and_then g.O.Stream.makes step2 rest2 c.put_users.new.pieces c.put_list.new.self c.put_list-2.new.self c.put_users.new.sink c.put_list.new.sink c.put_list-2.new.sink (Err c.in_err-put_list-2.field-0.0)
    c.in_ok-put_list.ensures.passes
    (failed_before g.O.Stream.makes step3 rest3 c.put_list.new.self c.put_list-2.new.self c.put_list.new.sink c.put_list-2.new.sink c.in_err-put_list-2.field-0.0 c.in_err-put_list-2.ensures.passes))))

pub returns-in_err-put_number-clause-passes : goal.returns-in_err-put_number-clause-passes
returns-in_err-put_number-clause-passes g c =
    let step0 = begin_bytes c.args.moment c.args.head.now.path.now in
    let step1 = list_bytes user_bytes c.args.head.now.users.now in
    let step2 = list_bytes constraint_bytes c.args.head.now.declared.now in
    let step3 = list_bytes constraint_bytes c.args.head.now.constraints.now in
    let step4 = number_bytes c.args.head.now.greatest in
    let step5 = numbers_bytes c.args.sessions.now.store in
    let rest4 = step5 in
    let rest3 = step4 ++ rest4 in
    let rest2 = step3 ++ rest3 in
    let rest1 = step2 ++ rest2 in
    let rest0 = step1 ++ rest1 in
    let p = err_from_is_err_and c.from_residual-in_err-put_number.result c.from_residual-in_err-put_number.ensures.1 in
    rw (p.1, p.2) (and_then g.O.Stream.makes step0 rest0 c.args.pieces.now c.put_begin.new.pieces c.put_number.new.self c.args.sink.now c.put_begin.new.sink c.put_number.new.sink (Err c.in_err-put_number.field-0.0)
    c.in_ok-put_begin.ensures.passes
    (and_then g.O.Stream.makes step1 rest1 c.put_begin.new.pieces c.put_users.new.pieces c.put_number.new.self c.put_begin.new.sink c.put_users.new.sink c.put_number.new.sink (Err c.in_err-put_number.field-0.0)
    c.in_ok-put_users.ensures.passes
    (and_then g.O.Stream.makes step2 rest2 c.put_users.new.pieces c.put_list.new.self c.put_number.new.self c.put_users.new.sink c.put_list.new.sink c.put_number.new.sink (Err c.in_err-put_number.field-0.0)
    c.in_ok-put_list.ensures.passes
    (and_then g.O.Stream.makes step3 rest3 c.put_list.new.self c.put_list-2.new.self c.put_number.new.self c.put_list.new.sink c.put_list-2.new.sink c.put_number.new.sink (Err c.in_err-put_number.field-0.0)
    c.in_ok-put_list-2.ensures.passes
    (failed_before g.O.Stream.makes step4 rest4 c.put_list-2.new.self c.put_number.new.self c.put_list-2.new.sink c.put_number.new.sink c.in_err-put_number.field-0.0 c.in_err-put_number.ensures.passes)))))

pub returns-in_err-put_numbers-clause-passes : goal.returns-in_err-put_numbers-clause-passes
returns-in_err-put_numbers-clause-passes g c =
    let step0 = begin_bytes c.args.moment c.args.head.now.path.now in
    let step1 = list_bytes user_bytes c.args.head.now.users.now in
    let step2 = list_bytes constraint_bytes c.args.head.now.declared.now in
    let step3 = list_bytes constraint_bytes c.args.head.now.constraints.now in
    let step4 = number_bytes c.args.head.now.greatest in
    let step5 = numbers_bytes c.args.sessions.now.store in
    let rest4 = step5 in
    let rest3 = step4 ++ rest4 in
    let rest2 = step3 ++ rest3 in
    let rest1 = step2 ++ rest2 in
    let rest0 = step1 ++ rest1 in
    let p = err_from_is_err_and c.from_residual-in_err-put_numbers.result c.from_residual-in_err-put_numbers.ensures.1 in
    rw (p.1, p.2) (and_then g.O.Stream.makes step0 rest0 c.args.pieces.now c.put_begin.new.pieces c.put_numbers.new.pieces c.args.sink.now c.put_begin.new.sink c.put_numbers.new.sink (Err c.in_err-put_numbers.field-0.0)
    c.in_ok-put_begin.ensures.passes
    (and_then g.O.Stream.makes step1 rest1 c.put_begin.new.pieces c.put_users.new.pieces c.put_numbers.new.pieces c.put_begin.new.sink c.put_users.new.sink c.put_numbers.new.sink (Err c.in_err-put_numbers.field-0.0)
    c.in_ok-put_users.ensures.passes
    (and_then g.O.Stream.makes step2 rest2 c.put_users.new.pieces c.put_list.new.self c.put_numbers.new.pieces c.put_users.new.sink c.put_list.new.sink c.put_numbers.new.sink (Err c.in_err-put_numbers.field-0.0)
    c.in_ok-put_list.ensures.passes
    (and_then g.O.Stream.makes step3 rest3 c.put_list.new.self c.put_list-2.new.self c.put_numbers.new.pieces c.put_list.new.sink c.put_list-2.new.sink c.put_numbers.new.sink (Err c.in_err-put_numbers.field-0.0)
    c.in_ok-put_list-2.ensures.passes
    (and_then g.O.Stream.makes step4 rest4 c.put_list-2.new.self c.put_number.new.self c.put_numbers.new.pieces c.put_list-2.new.sink c.put_number.new.sink c.put_numbers.new.sink (Err c.in_err-put_numbers.field-0.0)
    c.in_ok-put_number.ensures.passes
    c.in_err-put_numbers.ensures.passes)))))

pub returns-clause-passes : goal.returns-clause-passes
returns-clause-passes g c =
    let step0 = begin_bytes c.args.moment c.args.head.now.path.now in
    let step1 = list_bytes user_bytes c.args.head.now.users.now in
    let step2 = list_bytes constraint_bytes c.args.head.now.declared.now in
    let step3 = list_bytes constraint_bytes c.args.head.now.constraints.now in
    let step4 = number_bytes c.args.head.now.greatest in
    let step5 = numbers_bytes c.args.sessions.now.store in
    let rest4 = step5 in
    let rest3 = step4 ++ rest4 in
    let rest2 = step3 ++ rest3 in
    let rest1 = step2 ++ rest2 in
    let rest0 = step1 ++ rest1 in
    (and_then g.O.Stream.makes step0 rest0 c.args.pieces.now c.put_begin.new.pieces c.put_numbers.new.pieces c.args.sink.now c.put_begin.new.sink c.put_numbers.new.sink (Ok tt)
    c.in_ok-put_begin.ensures.passes
    (and_then g.O.Stream.makes step1 rest1 c.put_begin.new.pieces c.put_users.new.pieces c.put_numbers.new.pieces c.put_begin.new.sink c.put_users.new.sink c.put_numbers.new.sink (Ok tt)
    c.in_ok-put_users.ensures.passes
    (and_then g.O.Stream.makes step2 rest2 c.put_users.new.pieces c.put_list.new.self c.put_numbers.new.pieces c.put_users.new.sink c.put_list.new.sink c.put_numbers.new.sink (Ok tt)
    c.in_ok-put_list.ensures.passes
    (and_then g.O.Stream.makes step3 rest3 c.put_list.new.self c.put_list-2.new.self c.put_numbers.new.pieces c.put_list.new.sink c.put_list-2.new.sink c.put_numbers.new.sink (Ok tt)
    c.in_ok-put_list-2.ensures.passes
    (and_then g.O.Stream.makes step4 rest4 c.put_list-2.new.self c.put_number.new.self c.put_numbers.new.pieces c.put_list-2.new.sink c.put_number.new.sink c.put_numbers.new.sink (Ok tt)
    c.in_ok-put_number.ensures.passes
    c.in_ok-put_numbers.ensures.passes)))))
