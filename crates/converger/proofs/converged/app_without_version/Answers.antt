use Rattle.std.proofs.Common.{◌≡◌, ◌<◌, length, get_or, sym, refl, arith}
use Rattle.std.proofs.lemmas.Option.{slice_get-get_or, slice_get_read, slice_get_within}
use Rattle.converger.proofs.converged.app_without_version.Goals as goal

pub returns-clause-app : goal.returns-clause-app
returns-clause-app c =
    let rows = c.args.rows.now.rows in
    let winners = c.args.rows.now.winners in
    let at = c.in-Some.at in
    let place = get_or winners at 0 in
    let row = c.index-rows-place.result in
    let within : at < length winners = omega (arith, c.requires, c.in-Some.ensures.within) in
    let winner = c.rows.ensures.within.well_formed.winning.only at 0 within in
    let inside : place < length rows = slice_get_within rows place winner.0 winner.1.stands in
    let read : row ≡ get_or rows place row = rw (c.rows.ensures.rows, c.winners.ensures.winners) at c.index-rows-place.is in
    record {
      k = at;
      place = place;
      row = row;
      wins = slice_get-get_or winners at 0 within;
      stands = slice_get_read rows (length rows) place row refl inside read;
      named = rw (← c.index-rows-place.is) at (sym c.in_ok-app.ensures);
      without = c.in-Some.ensures.is;
      first = c.in-Some.ensures.first;
    }
