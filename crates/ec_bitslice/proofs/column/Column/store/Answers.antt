use Rattle.std.proofs.Common.{arith, ◌+◌}
use Rattle.ec_bitslice.proofs.Columns.{stores_column, stores_none, stores_more}
use Rattle.ec_bitslice.proofs.column.Column.store.Goals as goal

pub returns : goal.returns
returns c =
    let at = c.args.at in
    let old = c.args.chunk.now in
    let room = c.requires in
    let s1 = stores_more 0 c.args.self at at old old c.store_lanes.new.chunk room (omega arith) (stores_none c.args.self at old) c.store_lanes.ensures in
    let s2 = stores_more 1 c.args.self at (64 + at) old c.store_lanes.new.chunk c.store_lanes-2.new.chunk room (omega arith) s1 c.store_lanes-2.ensures in
    let s3 = stores_more 2 c.args.self at (128 + at) old c.store_lanes-2.new.chunk c.store_lanes-3.new.chunk room (omega arith) s2 c.store_lanes-3.ensures in
    let s4 = stores_more 3 c.args.self at (192 + at) old c.store_lanes-3.new.chunk c.store_lanes-4.new.chunk room (omega arith) s3 c.store_lanes-4.ensures in
    let s5 = stores_more 4 c.args.self at (256 + at) old c.store_lanes-4.new.chunk c.store_lanes-5.new.chunk room (omega arith) s4 c.store_lanes-5.ensures in
    let s6 = stores_more 5 c.args.self at (320 + at) old c.store_lanes-5.new.chunk c.store_lanes-6.new.chunk room (omega arith) s5 c.store_lanes-6.ensures in
    let s7 = stores_more 6 c.args.self at (384 + at) old c.store_lanes-6.new.chunk c.store_lanes-7.new.chunk room (omega arith) s6 c.store_lanes-7.ensures in
    let s8 = stores_more 7 c.args.self at (448 + at) old c.store_lanes-7.new.chunk c.store_lanes-8.new.chunk room (omega arith) s7 c.store_lanes-8.ensures in
    stores_column c.args.self at old c.store_lanes-8.new.chunk room c.store_lanes-8.ensures.chunk s8
