-- What a host's record tells.
use Rattle.mr_memhost.specs.declared.journal.Journal.{Journal}
use Rattle.mr_memhost.specs.Files.{bytes_of}
use Rattle.mr_memhost.specs.Story.{Story, story_of}

abbrev pub story : Journal → Story
story r = story_of (bytes_of r.initial) r.before.items r.steps.items
