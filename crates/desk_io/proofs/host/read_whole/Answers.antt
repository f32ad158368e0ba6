use Rattle.std.proofs.Common.{◌≡◌, ◌<◌, ◌-◌, ◌++◌, length, drop, true, is_ok, vec_len, rules, arith, refl}
use Rattle.std.proofs.lemmas.List.{length-append, length-take}
use Rattle.desk_io.proofs.Pieces.{read_more, read_within, read_all, read_past}
use Rattle.desk_io.proofs.host.read_whole.Goals as goal

pub overflow_sub-room : goal.overflow_sub-room
overflow_sub-room g c = omega (arith, c.loop.invariant.within, c.len.ensures)

pub slice_bounds-piece-end : goal.slice_bounds-piece-end
slice_bounds-piece-end g c = omega (arith, c.min-wanted.ensures)

pub slice_bounds-read-end : goal.slice_bounds-read-end
slice_bounds-read-end g c = omega (arith, c.min-wanted.ensures, length-take c.min-wanted.result c.loop.piece)

pub slice_bounds-piece-end-in-loop : goal.slice_bounds-piece-end-in-loop
slice_bounds-piece-end-in-loop g c =
    omega (arith, c.in-Ok.ensures.bound.0, length-append c.read.new.buf (drop c.min-wanted.result c.loop.piece))

pub slice_bounds-extend_from_slice-end : goal.slice_bounds-extend_from_slice-end
slice_bounds-extend_from_slice-end g c =
    let rest = drop c.min-wanted.result c.loop.piece in
    omega (
      arith,
      c.in-Ok.ensures.bound.0,
      length-append c.read.new.buf rest,
      length-take c.in-Ok.count (c.read.new.buf ++ rest),
    )

pub returns-then-count-eq0 : goal.returns-then-count-eq0
returns-then-count-eq0 g c =
    let some : 0 < length c.read.new.buf = omega (
      arith,
      c.saturating_add.ensures,
      c.min-wanted.ensures,
      length-take c.min-wanted.result c.loop.piece,
    ) in (
      read_all (g.F.Read.remaining c.args.reader.now) (g.F.Read.remaining c.loop.reader)
          (g.F.Read.remaining c.read.new.self) c.loop.bytes.items c.read.new.buf c.in-Ok.count
          c.loop.invariant.so_far c.in-Ok.ensures.bytes.0 c.if-count-eq0.true
          (c.in-Ok.ensures.bytes.1 c.if-count-eq0.true some),
      c.loop.invariant.within,
    )

pub returns-then-count-room : goal.returns-then-count-room
returns-then-count-room g c =
    let far : c.args.limit - length c.loop.bytes.items < c.in-Ok.count = omega arith in (
      read_past (g.F.Read.remaining c.args.reader.now) (g.F.Read.remaining c.loop.reader)
          (g.F.Read.remaining c.read.new.self) c.loop.bytes.items c.read.new.buf c.in-Ok.count c.args.limit
          c.loop.invariant.so_far c.in-Ok.ensures.bytes.0 c.in-Ok.ensures.bound.1 far,
      refl,
    )

pub loop-preserved : goal.loop-preserved
loop-preserved g c =
    let ok : is_ok c.extend_from_slice.result ≡ true = search rules in
    record {
      within = read_within (vec_len c.loop.bytes) (vec_len c.extend_from_slice.new.self) c.args.limit c.in-Ok.count
          (c.read.new.buf ++ drop c.min-wanted.result c.loop.piece) (is_ok c.extend_from_slice.result)
          c.loop.invariant.within (omega (arith, c.if-count-room.false, c.len.ensures)) ok
          c.extend_from_slice.ensures.len;
      so_far = read_more (g.F.Read.remaining c.args.reader.now) (g.F.Read.remaining c.loop.reader)
          (g.F.Read.remaining c.read.new.self) c.loop.bytes.items c.extend_from_slice.new.self.items c.read.new.buf
          (drop c.min-wanted.result c.loop.piece) c.in-Ok.count (is_ok c.extend_from_slice.result)
          c.in-Ok.ensures.bound.0 c.loop.invariant.so_far c.in-Ok.ensures.bytes.0 ok
          c.extend_from_slice.ensures.items;
    }
