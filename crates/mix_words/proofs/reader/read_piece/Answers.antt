use Rattle.std.proofs.Common.{◌∷◌, [], List, ℕ, refl, sym, ap}
use Rattle.std.proofs.lemmas.Result.{err_from_is_err_and}
use Rattle.mix_words.specs.Piece.{Joint, Other, Raised}
use Rattle.mix_words.specs.Sofar.{place_of, state_of}
use Rattle.mix_words.proofs.BarLemmas.{may_not_give}
use Rattle.mix_words.proofs.RefusedLemmas.{dies_option, dies_piece, dies_unknown, follows_option, follows_piece_as}
use Rattle.mix_words.proofs.reader.read_piece.Goals as goal

pub returns-then-not-may_give : goal.returns-then-not-may_give
returns-then-not-may_give c = λ is. dies_option (state_of c.args.sofar) c.in-Some.wanted c.args.word.now c.in-Some.ensures.some
    (may_not_give (state_of c.args.sofar) c.in-Some.wanted (sym c.if-not-may_give.ensures))

pub returns-in_err-with_flag : goal.returns-in_err-with_flag
returns-in_err-with_flag c =
    let p = err_from_is_err_and c.from_residual.result c.from_residual.ensures.1 in rw (p.1, p.2) (λ is. dies_piece (state_of c.args.sofar) (Raised
    c.in-Some-flag_named.flag) c.args.word.now tt (ap (λ (w : List ℕ). w ∷ []) (sym c.in-Some-flag_named.ensures.some)) (c.in_err-with_flag.ensures is))

pub returns-in-Some-flag_named : goal.returns-in-Some-flag_named
returns-in-Some-flag_named c =
    follows_piece_as (state_of c.args.sofar) (state_of c.in_ok-with_flag.field-0) (place_of c.ready.result) (Raised c.in-Some-flag_named.flag)
    c.args.word.now tt (ap (λ (w : List ℕ). w ∷ []) (sym c.in-Some-flag_named.ensures.some)) c.ready.ensures c.in_ok-with_flag.ensures

pub returns-then-not-may_give-2 : goal.returns-then-not-may_give-2
returns-then-not-may_give-2 c =
    λ is. dies_piece (state_of c.args.sofar) (Joint c.in-Some-split_value.option c.in-Some-split_value.value.now) c.args.word.now tt (ap (λ
    (w : List ℕ). w ∷ []) (sym c.in-Some-split_value.ensures.some)) (may_not_give (state_of c.args.sofar) c.in-Some-split_value.option (sym
    c.if-not-may_give-2.ensures) c.in-Some-split_value.value.now)

pub returns-in_err-with_value : goal.returns-in_err-with_value
returns-in_err-with_value c =
    let p = err_from_is_err_and c.from_residual-in_err-with_value.result c.from_residual-in_err-with_value.ensures.1 in rw (p.1, p.2)
    (λ is. dies_piece (state_of c.args.sofar) (Joint c.in-Some-split_value.option c.in-Some-split_value.value.now) c.args.word.now tt (ap (λ
    (w : List ℕ). w ∷ []) (sym c.in-Some-split_value.ensures.some)) (c.in_err-with_value.ensures is))

pub returns-in-Some-split_value : goal.returns-in-Some-split_value
returns-in-Some-split_value c =
    follows_piece_as (state_of c.args.sofar) (state_of c.in_ok-with_value.field-0) (place_of c.ready-in-Some-split_value.result) (Joint
    c.in-Some-split_value.option c.in-Some-split_value.value.now) c.args.word.now tt (ap (λ (w : List ℕ). w ∷ []) (sym
    c.in-Some-split_value.ensures.some)) c.ready-in-Some-split_value.ensures c.in_ok-with_value.ensures

pub returns-then-is_dashed : goal.returns-then-is_dashed
returns-then-is_dashed c =
    λ is. dies_unknown (state_of c.args.sofar) c.args.word.now (record {
      no_valued = c.in_default.ensures.none;
      no_flag = c.in_default-flag_named.ensures.none;
      no_value = c.in_default-split_value.ensures.none;
      dashed = sym c.if-is_dashed.ensures;
    })

pub returns-in_err-with_app : goal.returns-in_err-with_app
returns-in_err-with_app c =
    let p = err_from_is_err_and c.from_residual-in_err-with_app.result c.from_residual-in_err-with_app.ensures.1 in rw (p.1, p.2) (λ is. dies_piece
    (state_of c.args.sofar) (Other c.args.word.now) c.args.word.now (sym c.if-is_dashed.ensures) refl (c.in_err-with_app.ensures is))

pub returns : goal.returns
returns c =
    follows_piece_as (state_of c.args.sofar) (state_of c.in_ok-with_app.field-0) (place_of c.ready-2.result) (Other c.args.word.now) c.args.word.now
    (sym c.if-is_dashed.ensures) refl c.ready-2.ensures c.in_ok-with_app.ensures
