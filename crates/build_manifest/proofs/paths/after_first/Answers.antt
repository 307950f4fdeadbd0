use Rattle.std.proofs.Common.{◌≡◌, Some, None, refl, arith, ⊎_elim}
use Rattle.std.proofs.lemmas.Bool.{cases_lt}
use Rattle.build_manifest.proofs.CharacterTable.{row_above, row_ascii, row_four, row_four_high, row_four_low, row_inner, row_three, row_three_high, row_three_last, row_three_low, row_two, table}
use Rattle.build_manifest.proofs.Characters.{leads, leads_none}
use Rattle.build_manifest.proofs.paths.after_first.Goals as goal

pub returns-in-0-to-127-clause-some : goal.returns-in-0-to-127-clause-some
returns-in-0-to-127-clause-some c =
    leads c.args.byte 0 0x80 0xBF (row_ascii c.args.byte (omega arith))
    (record { count = 0; low = 0x80; high = 0xBF }) refl (omega arith) (omega arith) (omega arith)

pub returns-in-224-clause-some : goal.returns-in-224-clause-some
returns-in-224-clause-some c =
    leads c.args.byte 2 0xA0 0xBF (row_three_low c.args.byte (omega arith)) c.expecting.result c.expecting.ensures (omega arith) (omega arith) (omega arith)

pub returns-in-237-clause-some : goal.returns-in-237-clause-some
returns-in-237-clause-some c =
    leads c.args.byte 2 0x80 0x9F (row_three_high c.args.byte (omega arith))
    c.expecting-in-237.result c.expecting-in-237.ensures (omega arith) (omega arith) (omega arith)

pub returns-in-240-clause-some : goal.returns-in-240-clause-some
returns-in-240-clause-some c =
    leads c.args.byte 3 0x90 0xBF (row_four_low c.args.byte (omega arith))
    c.expecting-in-240.result c.expecting-in-240.ensures (omega arith) (omega arith) (omega arith)

pub returns-in-244-clause-some : goal.returns-in-244-clause-some
returns-in-244-clause-some c =
    leads c.args.byte 3 0x80 0x8F (row_four_high c.args.byte (omega arith))
    c.expecting-in-244.result c.expecting-in-244.ensures (omega arith) (omega arith) (omega arith)

pub returns-in-194-to-223-clause-some : goal.returns-in-194-to-223-clause-some
returns-in-194-to-223-clause-some c =
    leads c.args.byte 1 0x80 0xBF (row_two c.args.byte (omega arith) (omega arith))
    c.expecting-in-194-to-223.result c.expecting-in-194-to-223.ensures (omega arith) (omega arith) (omega arith)

pub returns-in-241-to-243-clause-some : goal.returns-in-241-to-243-clause-some
returns-in-241-to-243-clause-some c =
    leads c.args.byte 3 0x80 0xBF (row_four c.args.byte (omega arith) (omega arith))
    c.expecting-in-241-to-243.result c.expecting-in-241-to-243.ensures (omega arith) (omega arith) (omega arith)

pub returns-in-225-to-239-clause-some : goal.returns-in-225-to-239-clause-some
returns-in-225-to-239-clause-some c =
    let row : table c.args.byte ≡ Some (2, 0x80, 0xBF) =
    ⊎_elim (λ k. row_three c.args.byte (omega arith) k) (λ k. row_three_last c.args.byte (omega arith) (omega arith)) (cases_lt c.args.byte 0xED) in
    leads c.args.byte 2 0x80 0xBF row c.expecting-in-225-to-239.result c.expecting-in-225-to-239.ensures (omega arith) (omega arith) (omega arith)

pub returns-in_default-clause-none : goal.returns-in_default-clause-none
returns-in_default-clause-none c =
    let row : table c.args.byte ≡ None =
    ⊎_elim (λ k. row_inner c.args.byte (omega arith) k) (λ k. row_above c.args.byte (omega arith)) (cases_lt c.args.byte 0xC2) in
    leads_none c.args.byte row

pub returns-in_default-2-clause-none : goal.returns-in_default-2-clause-none
returns-in_default-2-clause-none c =
    let row : table c.args.byte ≡ None =
    ⊎_elim (λ k. row_inner c.args.byte (omega arith) k) (λ k. row_above c.args.byte (omega arith)) (cases_lt c.args.byte 0xC2) in
    leads_none c.args.byte row
