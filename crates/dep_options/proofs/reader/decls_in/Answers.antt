use Rattle.std.proofs.Common.{◌<◌, length, arith}
use Rattle.dep_options.proofs.DeclLemmas.{kept_next, stops_next, stops_here, kept_all}
use Rattle.dep_options.proofs.reader.decls_in.Goals as goal

pub returns-in-Err : goal.returns-in-Err
returns-in-Err c = λ m.
    stops_here c.args.base.now c.args.terms.now c.loop-index.index c.index-terms-index.result c.in-Err.cause (omega arith) c.index-terms-index.is (c.in-Err.ensures.err m) c.loop-index.invariant.stops

pub loop-index-preserved : goal.loop-index-preserved
loop-index-preserved c =
    let base = c.args.base.now in
    let ts = c.args.terms.now in
    let i = c.loop-index.index in
    let t = c.index-terms-index.result in
    let within : i < length ts = omega arith in
    record {
      kept = kept_next base ts i t c.loop-index.decls.items c.pushed.new.decls.items within c.index-terms-index.is c.in-Ok.ensures.ok c.loop-index.invariant.kept;
      stops = stops_next base ts i t c.loop-index.decls.items c.pushed.new.decls.items within c.index-terms-index.is c.in-Ok.ensures.ok c.loop-index.invariant.stops;
    }

pub returns : goal.returns
returns c =
    kept_all c.args.base.now c.args.terms.now c.loop-index.index c.loop-index.decls.items (omega arith) c.loop-index.invariant.kept
