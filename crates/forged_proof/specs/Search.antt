-- Request 2026-12: the search over a proof's bytes, part by part. Assumes nothing.
use Rattle.std.specs.Prelude.{List, ◌++◌}
use Rattle.terms.specs.Bits.{Bytes}
use Rattle.terms.specs.Records.{presence, absence}
use Rattle.sha256.specs.Sha256.{sha256}
use Rattle.proofrecords.specs.ProofBytes.{presence_in, absence_in}
use Rattle.forgery.specs.Messages.{path_messages, checked_messages}
use Rattle.forgery.specs.Finding.{Finding, or_else, zero_among, searched}
use Rattle.forged_path.specs.Along.{looked}

-- Along the path of the presence proof x; along two; along those of the absence proof x.
abbrev pub on_path : List Bytes → Bytes → Finding
on_path nodes x = looked nodes (path_messages sha256 (presence_in x))

abbrev pub on_two : List Bytes → Bytes → Bytes → Finding
on_two nodes x y = looked nodes (path_messages sha256 (presence_in x) ++ path_messages sha256 (presence_in y))

abbrev pub on_neighbours : List Bytes → Bytes → Finding
on_neighbours nodes x = looked nodes (checked_messages sha256 (absence (absence_in x)))

-- Then the nodes' own.
abbrev pub or_zero : List Bytes → Finding → Finding
or_zero nodes f = or_else f (zero_among sha256 nodes)

-- What the search names of the presence proof x, and of the absence proof x.
abbrev pub in_presence : List Bytes → Bytes → Finding
in_presence nodes x = searched sha256 nodes (checked_messages sha256 (presence (presence_in x)))

abbrev pub in_absence : List Bytes → Bytes → Finding
in_absence nodes x = searched sha256 nodes (checked_messages sha256 (absence (absence_in x)))
