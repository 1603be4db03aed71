-- How what is kept of a viewer is seen.
use Rattle.std.specs.Prelude.{unwrap_or}
use Rattle.viewer.specs.declared.viewer.Viewer.TheInside.{Inside}
use Rattle.viewer.specs.declared.hearing.Draft.{Draft}
use Rattle.viewer.specs.Given.{marks_put}
use Rattle.viewer.specs.Viewer.{KeptViewer}

-- the viewer of what is kept of it
abbrev pub viewer_in : Inside → KeptViewer
viewer_in s = record { heard = s.ear; shared = s.shared; format = s.format; map_owed = s.map_owed; encoding = s.encoding; uses_copyrect = s.uses_copyrect; takes_sizes = s.takes_sizes; full_requests = s.full_requests; told = s.told; marks = s.marks; notices = s.notices }

-- the viewer with what a draft changes
abbrev pub viewer_by : KeptViewer → Draft → KeptViewer
viewer_by v d = record v { shared = d.shared; format = unwrap_or d.format v.format; map_owed = d.map_owed; encoding = d.encoding; uses_copyrect = d.uses_copyrect; takes_sizes = d.takes_sizes; full_requests = d.full_requests; told = d.told; marks = marks_put v.marks d.marks }
