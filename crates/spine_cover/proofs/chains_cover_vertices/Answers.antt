use Rattle.spine_cover.proofs.Vertices.{vertex_covered}
use Rattle.spine_cover.proofs.chains_cover_vertices.Goals as goal

pub returns : goal.returns
returns c = vertex_covered
