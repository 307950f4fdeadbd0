use Rattle.std.proofs.Common.{◌≡◌, ℕ, ◌<◌, List, Some, [], false, length, map, sym, ◌∙◌, ap, subst, arith, rules}
use Rattle.std.specs.List.{list_all, list_any}
use Rattle.std.proofs.lemmas.List.{length-map}
use Rattle.compile_model.specs.declared.job.Plan.{Plan}
use Rattle.partition_core.specs.State.{Opening}
use Rattle.partition_core.specs.declared.event.Event.{Event}
use Rattle.turn_board.specs.Seats.{fresh_seats}
use Rattle.turn_board.proofs.Fresh.{length_numbered}
use Rattle.partition_crew.specs.declared.one.One.{One}
use Rattle.partition_board.specs.Begun.{Begun}
use Rattle.partition_build.specs.Built.{IsEndingOf, all_fated, begun_by, by_all, fault_by, has_died, is_tree_back, one_of}
use Rattle.partition_build.specs.Built.HasBegun.{begun}
use Rattle.partition_build.proofs.Crewing.{all_begun, all_counts, all_returned, may_all}
use Rattle.partition_build.proofs.Ended.{closed_ending, closed_fates, closed_history, closed_is, closed_starts, nothing_ending, nothing_history}
use Rattle.partition_build.proofs.building.build.Goals as goal

pub seat-postings-requires-clause-all : goal.seat-postings-requires-clause-all
seat-postings-requires-clause-all g c κs within =
    let known = g.F.Folder.known in
    let counted = g.P.Partition.counted in
    let o : Opening = by_all c.args.plan c.args.kept.items (length c.args.partitions.items) in
    let start : Begun g.row.F.Denot = begun_by o c.args.folders.items in
    let board = c.in-Ok.ground.board in
    let seats : board.seats ≡ length c.args.partitions.items = (search rules) in
    let posts : c.in-Ok.ground.posts.items ≡ fresh_seats board (Some start) =
    subst (λ (n : ℕ). c.in-Ok.ground.posts.items ≡ fresh_seats board (Some (begun_by (by_all c.args.plan c.args.kept.items n) c.args.folders.items)))
    (sym c.in-Ok.ensures.board ∙ seats) c.in-Ok.ensures.posts in
    ap length posts ∙ length_numbered Event board.board (Some start) board.seats ∙ seats

pub seat-postings-requires-clause-room : goal.seat-postings-requires-clause-room
seat-postings-requires-clause-room g c κs within =
    let known = g.F.Folder.known in
    let counted = g.P.Partition.counted in
    let o : Opening = by_all c.args.plan c.args.kept.items (length c.args.partitions.items) in
    let start : Begun g.row.F.Denot = begun_by o c.args.folders.items in
    let board = c.in-Ok.ground.board in
    let seats : board.seats ≡ length c.args.partitions.items = (search rules) in
    let posts : c.in-Ok.ground.posts.items ≡ fresh_seats board (Some start) =
    subst (λ (n : ℕ). c.in-Ok.ground.posts.items ≡ fresh_seats board (Some (begun_by (by_all c.args.plan c.args.kept.items n) c.args.folders.items)))
    (sym c.in-Ok.ensures.board ∙ seats) c.in-Ok.ensures.posts in
    let long = ap length posts ∙ length_numbered Event board.board (Some start) board.seats in
    omega (arith, long, c.in-Ok.ensures.board, c.in-Ok.ensures.room.1)

pub serve_all-requires-clause-may : goal.serve_all-requires-clause-may
serve_all-requires-clause-may g c κs within =
    let known = g.F.Folder.known in
    let counted = g.P.Partition.counted in
    let o : Opening = by_all c.args.plan c.args.kept.items (length c.args.partitions.items) in
    let start : Begun g.row.F.Denot = begun_by o c.args.folders.items in
    let board = c.in-Ok.ground.board in
    let seats : board.seats ≡ length c.args.partitions.items = (search rules) in
    let posts : c.in-Ok.ground.posts.items ≡ fresh_seats board (Some start) =
    subst (λ (n : ℕ). c.in-Ok.ground.posts.items ≡ fresh_seats board (Some (begun_by (by_all c.args.plan c.args.kept.items n) c.args.folders.items)))
    (sym c.in-Ok.ensures.board ∙ seats) c.in-Ok.ensures.posts in
    let lasting = g.P.Partition.lasting in
    let old = c.seat-postings.result.items in
    let fresh = c.seat-postings.ensures.posts ∙ posts in
    may_all counted lasting board start old old fresh c.get-shared.result.now c.in-Ok.ground.posts.items c.args.partitions.items
    c.seat-postings.ensures.posts c.seat-postings.ensures.partitions c.in-Ok.ensures.free (c.get-shared.ensures ∙ c.in-Ok.ensures.plan)
    c.requires.seats.1 c.requires.young

pub close-fates-requires-clause-returned : goal.close-fates-requires-clause-returned
close-fates-requires-clause-returned g c =
    let known = g.F.Folder.known in
    let counted = g.P.Partition.counted in
    let o : Opening = by_all c.args.plan c.args.kept.items (length c.args.partitions.items) in
    let start : Begun g.row.F.Denot = begun_by o c.args.folders.items in
    let board = c.in-Ok.ground.board in
    let seats : board.seats ≡ length c.args.partitions.items = (search rules) in
    let posts : c.in-Ok.ground.posts.items ≡ fresh_seats board (Some start) =
    subst (λ (n : ℕ). c.in-Ok.ground.posts.items ≡ fresh_seats board (Some (begun_by (by_all c.args.plan c.args.kept.items n) c.args.folders.items)))
    (sym c.in-Ok.ensures.board ∙ seats) c.in-Ok.ensures.posts in
    let lasting = g.P.Partition.lasting in
    let old = c.seat-postings.result.items in
    let fresh = c.seat-postings.ensures.posts ∙ posts in
    let new = c.serve_all.new.postings.items in
    let long = c.serve_all.ensures.length in
    let each = c.serve_all.ensures.each in
    all_returned counted lasting board start old new fresh long each c.unseat.new.posts.items c.unseat.ensures.posts

pub returns-in-Ok-clause-history : goal.returns-in-Ok-clause-history
returns-in-Ok-clause-history g c =
    let known = g.F.Folder.known in
    let counted = g.P.Partition.counted in
    let o : Opening = by_all c.args.plan c.args.kept.items (length c.args.partitions.items) in
    let start : Begun g.row.F.Denot = begun_by o c.args.folders.items in
    let board = c.in-Ok.ground.board in
    let seats : board.seats ≡ length c.args.partitions.items = (search rules) in
    let posts : c.in-Ok.ground.posts.items ≡ fresh_seats board (Some start) =
    subst (λ (n : ℕ). c.in-Ok.ground.posts.items ≡ fresh_seats board (Some (begun_by (by_all c.args.plan c.args.kept.items n) c.args.folders.items)))
    (sym c.in-Ok.ensures.board ∙ seats) c.in-Ok.ensures.posts in
    let lasting = g.P.Partition.lasting in
    let old = c.seat-postings.result.items in
    let fresh = c.seat-postings.ensures.posts ∙ posts in
    let new = c.serve_all.new.postings.items in
    let long = c.serve_all.ensures.length in
    let each = c.serve_all.ensures.each in
    let honest = g.P.Meaning.honest × g.F.Folder.tells in
    let compile = g.P.Meaning.compile_of in
    let some : 0 < board.seats = omega (arith, seats, c.requires.seats.0) in
    let fates = c.close-fates.result.fates.items in
    let history = c.close-fates.result.history.items in
    let last = c.close-fates.result.folders.items in
    let same = all_begun counted lasting board start old new fresh long each c.unseat.new.posts.items c.unseat.ensures.posts some in
    let done = closed_is known honest compile o c.args.folders.items last fates history c.unseat.new.posts.items same c.close-fates.ensures.history
    c.close-fates.ensures.fates c.close-fates.ensures.faithful c.close-fates.ensures.sequential c.close-fates.ensures.left
    c.close-fates.ensures.counted in
    let one : One = record { fates = c.close-fates.result.fates; history = c.close-fates.result.history; fault = c.fault_of-built.result } in
    (closed_history honest compile o (map known c.args.folders.items) (map known last) one done, begun done.replayed)

pub returns-in-Ok-clause-faithful : goal.returns-in-Ok-clause-faithful
returns-in-Ok-clause-faithful g c =
    let known = g.F.Folder.known in
    let counted = g.P.Partition.counted in
    let o : Opening = by_all c.args.plan c.args.kept.items (length c.args.partitions.items) in
    let start : Begun g.row.F.Denot = begun_by o c.args.folders.items in
    let board = c.in-Ok.ground.board in
    let seats : board.seats ≡ length c.args.partitions.items = (search rules) in
    let posts : c.in-Ok.ground.posts.items ≡ fresh_seats board (Some start) =
    subst (λ (n : ℕ). c.in-Ok.ground.posts.items ≡ fresh_seats board (Some (begun_by (by_all c.args.plan c.args.kept.items n) c.args.folders.items)))
    (sym c.in-Ok.ensures.board ∙ seats) c.in-Ok.ensures.posts in
    let lasting = g.P.Partition.lasting in
    let old = c.seat-postings.result.items in
    let fresh = c.seat-postings.ensures.posts ∙ posts in
    let new = c.serve_all.new.postings.items in
    let long = c.serve_all.ensures.length in
    let each = c.serve_all.ensures.each in
    let honest = g.P.Meaning.honest × g.F.Folder.tells in
    let compile = g.P.Meaning.compile_of in
    let some : 0 < board.seats = omega (arith, seats, c.requires.seats.0) in
    let fates = c.close-fates.result.fates.items in
    let history = c.close-fates.result.history.items in
    let last = c.close-fates.result.folders.items in
    let same = all_begun counted lasting board start old new fresh long each c.unseat.new.posts.items c.unseat.ensures.posts some in
    let done = closed_is known honest compile o c.args.folders.items last fates history c.unseat.new.posts.items same c.close-fates.ensures.history
    c.close-fates.ensures.fates c.close-fates.ensures.faithful c.close-fates.ensures.sequential c.close-fates.ensures.left
    c.close-fates.ensures.counted in
    let one : One = record { fates = c.close-fates.result.fates; history = c.close-fates.result.history; fault = c.fault_of-built.result } in
    λ is tells. done.faithful (is, tells)

pub returns-in-Ok-clause-sequential : goal.returns-in-Ok-clause-sequential
returns-in-Ok-clause-sequential g c =
    let known = g.F.Folder.known in
    let counted = g.P.Partition.counted in
    let o : Opening = by_all c.args.plan c.args.kept.items (length c.args.partitions.items) in
    let start : Begun g.row.F.Denot = begun_by o c.args.folders.items in
    let board = c.in-Ok.ground.board in
    let seats : board.seats ≡ length c.args.partitions.items = (search rules) in
    let posts : c.in-Ok.ground.posts.items ≡ fresh_seats board (Some start) =
    subst (λ (n : ℕ). c.in-Ok.ground.posts.items ≡ fresh_seats board (Some (begun_by (by_all c.args.plan c.args.kept.items n) c.args.folders.items)))
    (sym c.in-Ok.ensures.board ∙ seats) c.in-Ok.ensures.posts in
    let lasting = g.P.Partition.lasting in
    let old = c.seat-postings.result.items in
    let fresh = c.seat-postings.ensures.posts ∙ posts in
    let new = c.serve_all.new.postings.items in
    let long = c.serve_all.ensures.length in
    let each = c.serve_all.ensures.each in
    let honest = g.P.Meaning.honest × g.F.Folder.tells in
    let compile = g.P.Meaning.compile_of in
    let some : 0 < board.seats = omega (arith, seats, c.requires.seats.0) in
    let fates = c.close-fates.result.fates.items in
    let history = c.close-fates.result.history.items in
    let last = c.close-fates.result.folders.items in
    let same = all_begun counted lasting board start old new fresh long each c.unseat.new.posts.items c.unseat.ensures.posts some in
    let done = closed_is known honest compile o c.args.folders.items last fates history c.unseat.new.posts.items same c.close-fates.ensures.history
    c.close-fates.ensures.fates c.close-fates.ensures.faithful c.close-fates.ensures.sequential c.close-fates.ensures.left
    c.close-fates.ensures.counted in
    let one : One = record { fates = c.close-fates.result.fates; history = c.close-fates.result.history; fault = c.fault_of-built.result } in
    let places : length c.as_slice-places.result.now ≡ length c.args.plan.jobs =
    ap length c.as_slice-places.ensures ∙ ap (λ (p : Plan). length p.jobs) c.get.ensures in
    let counts = map counted c.unseat.new.partitions.items in
    let fault = subst (λ (n : ℕ). c.fault_of-built.result ≡ fault_by (all_fated n fates) (list_any is_tree_back history) (list_all has_died counts)
    (length c.unseat.new.partitions.items)) places c.fault_of-built.ensures in
    let ending = closed_ending honest compile o (map known c.args.folders.items) (map known last) one done counts (length c.unseat.new.partitions.items)
    c.requires.folders (sym (length-map c.unseat.new.partitions.items counted)) fault in
    λ is tells sound. closed_fates honest compile o (map known c.args.folders.items) (map known last) one done counts ending (is, tells) sound

pub returns-in-Ok-clause-left : goal.returns-in-Ok-clause-left
returns-in-Ok-clause-left g c =
    let known = g.F.Folder.known in
    let counted = g.P.Partition.counted in
    let o : Opening = by_all c.args.plan c.args.kept.items (length c.args.partitions.items) in
    let start : Begun g.row.F.Denot = begun_by o c.args.folders.items in
    let board = c.in-Ok.ground.board in
    let seats : board.seats ≡ length c.args.partitions.items = (search rules) in
    let posts : c.in-Ok.ground.posts.items ≡ fresh_seats board (Some start) =
    subst (λ (n : ℕ). c.in-Ok.ground.posts.items ≡ fresh_seats board (Some (begun_by (by_all c.args.plan c.args.kept.items n) c.args.folders.items)))
    (sym c.in-Ok.ensures.board ∙ seats) c.in-Ok.ensures.posts in
    let lasting = g.P.Partition.lasting in
    let old = c.seat-postings.result.items in
    let fresh = c.seat-postings.ensures.posts ∙ posts in
    let new = c.serve_all.new.postings.items in
    let long = c.serve_all.ensures.length in
    let each = c.serve_all.ensures.each in
    let honest = g.P.Meaning.honest × g.F.Folder.tells in
    let compile = g.P.Meaning.compile_of in
    let some : 0 < board.seats = omega (arith, seats, c.requires.seats.0) in
    let fates = c.close-fates.result.fates.items in
    let history = c.close-fates.result.history.items in
    let last = c.close-fates.result.folders.items in
    let same = all_begun counted lasting board start old new fresh long each c.unseat.new.posts.items c.unseat.ensures.posts some in
    let done = closed_is known honest compile o c.args.folders.items last fates history c.unseat.new.posts.items same c.close-fates.ensures.history
    c.close-fates.ensures.fates c.close-fates.ensures.faithful c.close-fates.ensures.sequential c.close-fates.ensures.left
    c.close-fates.ensures.counted in
    let one : One = record { fates = c.close-fates.result.fates; history = c.close-fates.result.history; fault = c.fault_of-built.result } in
    done.left

pub returns-in-Ok-clause-counts : goal.returns-in-Ok-clause-counts
returns-in-Ok-clause-counts g c =
    let known = g.F.Folder.known in
    let counted = g.P.Partition.counted in
    let o : Opening = by_all c.args.plan c.args.kept.items (length c.args.partitions.items) in
    let start : Begun g.row.F.Denot = begun_by o c.args.folders.items in
    let board = c.in-Ok.ground.board in
    let seats : board.seats ≡ length c.args.partitions.items = (search rules) in
    let posts : c.in-Ok.ground.posts.items ≡ fresh_seats board (Some start) =
    subst (λ (n : ℕ). c.in-Ok.ground.posts.items ≡ fresh_seats board (Some (begun_by (by_all c.args.plan c.args.kept.items n) c.args.folders.items)))
    (sym c.in-Ok.ensures.board ∙ seats) c.in-Ok.ensures.posts in
    let lasting = g.P.Partition.lasting in
    let old = c.seat-postings.result.items in
    let fresh = c.seat-postings.ensures.posts ∙ posts in
    let new = c.serve_all.new.postings.items in
    let long = c.serve_all.ensures.length in
    let each = c.serve_all.ensures.each in
    all_counts counted lasting board start old new fresh long each c.args.partitions.items c.unseat.new.partitions.items c.unseat.new.posts.items
    c.close-fates.result.history.items c.seat-postings.ensures.partitions c.unseat.ensures.partitions c.unseat.ensures.posts c.close-fates.ensures.history

pub returns-in-Ok-clause-starts : goal.returns-in-Ok-clause-starts
returns-in-Ok-clause-starts g c =
    let known = g.F.Folder.known in
    let counted = g.P.Partition.counted in
    let o : Opening = by_all c.args.plan c.args.kept.items (length c.args.partitions.items) in
    let start : Begun g.row.F.Denot = begun_by o c.args.folders.items in
    let board = c.in-Ok.ground.board in
    let seats : board.seats ≡ length c.args.partitions.items = (search rules) in
    let posts : c.in-Ok.ground.posts.items ≡ fresh_seats board (Some start) =
    subst (λ (n : ℕ). c.in-Ok.ground.posts.items ≡ fresh_seats board (Some (begun_by (by_all c.args.plan c.args.kept.items n) c.args.folders.items)))
    (sym c.in-Ok.ensures.board ∙ seats) c.in-Ok.ensures.posts in
    let lasting = g.P.Partition.lasting in
    let old = c.seat-postings.result.items in
    let fresh = c.seat-postings.ensures.posts ∙ posts in
    let new = c.serve_all.new.postings.items in
    let long = c.serve_all.ensures.length in
    let each = c.serve_all.ensures.each in
    let honest = g.P.Meaning.honest × g.F.Folder.tells in
    let compile = g.P.Meaning.compile_of in
    let some : 0 < board.seats = omega (arith, seats, c.requires.seats.0) in
    let fates = c.close-fates.result.fates.items in
    let history = c.close-fates.result.history.items in
    let last = c.close-fates.result.folders.items in
    let same = all_begun counted lasting board start old new fresh long each c.unseat.new.posts.items c.unseat.ensures.posts some in
    let done = closed_is known honest compile o c.args.folders.items last fates history c.unseat.new.posts.items same c.close-fates.ensures.history
    c.close-fates.ensures.fates c.close-fates.ensures.faithful c.close-fates.ensures.sequential c.close-fates.ensures.left
    c.close-fates.ensures.counted in
    let one : One = record { fates = c.close-fates.result.fates; history = c.close-fates.result.history; fault = c.fault_of-built.result } in
    let places : length c.as_slice-places.result.now ≡ length c.args.plan.jobs =
    ap length c.as_slice-places.ensures ∙ ap (λ (p : Plan). length p.jobs) c.get.ensures in
    let counts = map counted c.unseat.new.partitions.items in
    let fault = subst (λ (n : ℕ). c.fault_of-built.result ≡ fault_by (all_fated n fates) (list_any is_tree_back history) (list_all has_died counts)
    (length c.unseat.new.partitions.items)) places c.fault_of-built.ensures in
    let ending = closed_ending honest compile o (map known c.args.folders.items) (map known last) one done counts (length c.unseat.new.partitions.items)
    c.requires.folders (sym (length-map c.unseat.new.partitions.items counted)) fault in
    λ is tells sound. closed_starts honest compile o (map known c.args.folders.items) (map known last) one done counts c.requires.planned ending
    (is, tells) sound

pub returns-in-Ok-clause-ending : goal.returns-in-Ok-clause-ending
returns-in-Ok-clause-ending g c =
    let known = g.F.Folder.known in
    let counted = g.P.Partition.counted in
    let o : Opening = by_all c.args.plan c.args.kept.items (length c.args.partitions.items) in
    let start : Begun g.row.F.Denot = begun_by o c.args.folders.items in
    let board = c.in-Ok.ground.board in
    let seats : board.seats ≡ length c.args.partitions.items = (search rules) in
    let posts : c.in-Ok.ground.posts.items ≡ fresh_seats board (Some start) =
    subst (λ (n : ℕ). c.in-Ok.ground.posts.items ≡ fresh_seats board (Some (begun_by (by_all c.args.plan c.args.kept.items n) c.args.folders.items)))
    (sym c.in-Ok.ensures.board ∙ seats) c.in-Ok.ensures.posts in
    let lasting = g.P.Partition.lasting in
    let old = c.seat-postings.result.items in
    let fresh = c.seat-postings.ensures.posts ∙ posts in
    let new = c.serve_all.new.postings.items in
    let long = c.serve_all.ensures.length in
    let each = c.serve_all.ensures.each in
    let honest = g.P.Meaning.honest × g.F.Folder.tells in
    let compile = g.P.Meaning.compile_of in
    let some : 0 < board.seats = omega (arith, seats, c.requires.seats.0) in
    let fates = c.close-fates.result.fates.items in
    let history = c.close-fates.result.history.items in
    let last = c.close-fates.result.folders.items in
    let same = all_begun counted lasting board start old new fresh long each c.unseat.new.posts.items c.unseat.ensures.posts some in
    let done = closed_is known honest compile o c.args.folders.items last fates history c.unseat.new.posts.items same c.close-fates.ensures.history
    c.close-fates.ensures.fates c.close-fates.ensures.faithful c.close-fates.ensures.sequential c.close-fates.ensures.left
    c.close-fates.ensures.counted in
    let one : One = record { fates = c.close-fates.result.fates; history = c.close-fates.result.history; fault = c.fault_of-built.result } in
    let places : length c.as_slice-places.result.now ≡ length c.args.plan.jobs =
    ap length c.as_slice-places.ensures ∙ ap (λ (p : Plan). length p.jobs) c.get.ensures in
    let counts = map counted c.unseat.new.partitions.items in
    let fault = subst (λ (n : ℕ). c.fault_of-built.result ≡ fault_by (all_fated n fates) (list_any is_tree_back history) (list_all has_died counts)
    (length c.unseat.new.partitions.items)) places c.fault_of-built.ensures in
    let ending = closed_ending honest compile o (map known c.args.folders.items) (map known last) one done counts (length c.unseat.new.partitions.items)
    c.requires.folders (sym (length-map c.unseat.new.partitions.items counted)) fault in
    ending

pub returns-in-Err-clause-history : goal.returns-in-Err-clause-history
returns-in-Err-clause-history g c =
    let known = g.F.Folder.known in
    let counted = g.P.Partition.counted in
    let o : Opening = by_all c.args.plan c.args.kept.items (length c.args.partitions.items) in
    let start : Begun g.row.F.Denot = begun_by o c.args.folders.items in
    nothing_history o (map known c.args.folders.items) (one_of c.unbegun.result) c.unbegun.ensures.nothing.0 c.unbegun.ensures.nothing.1

pub returns-in-Err-clause-ending : goal.returns-in-Err-clause-ending
returns-in-Err-clause-ending g c =
    let known = g.F.Folder.known in
    let counted = g.P.Partition.counted in
    let o : Opening = by_all c.args.plan c.args.kept.items (length c.args.partitions.items) in
    let start : Begun g.row.F.Denot = begun_by o c.args.folders.items in
    let one : One = one_of c.unbegun.result in
    let places : length c.as_slice-places.result.now ≡ length c.args.plan.jobs =
    ap length c.as_slice-places.ensures ∙ ap (λ (p : Plan). length p.jobs) c.get.ensures in
    let counts = map counted c.args.partitions.items in
    let fault = subst (λ (n : ℕ). one.fault ≡ fault_by (all_fated n []) false (list_all has_died counts) (length c.args.partitions.items)) places
    c.unbegun.ensures.fault in
    let ending = nothing_ending o (map known c.args.folders.items) one c.unbegun.ensures.nothing.0 c.unbegun.ensures.nothing.1 counts
    (length c.args.partitions.items) c.requires.folders (sym (length-map c.args.partitions.items counted)) fault in
    subst (λ (folders : List g.row.F.Denot). IsEndingOf one (length c.args.plan.jobs) (map known folders) (map counted c.unbegun.result.partitions.items))
    (sym (c.unbegun.ensures.same.0 ∙ c.in-Err.ensures.refused))
    (subst (λ (partitions : List g.row.P.Denot). IsEndingOf one (length c.args.plan.jobs) (map known c.args.folders.items) (map counted partitions))
    (sym c.unbegun.ensures.same.1) ending)
