-- How the content of a handle is coded.
use Rattle.std.specs.Coded.{Coded, coded_option}
use Rattle.aug_c.specs.contracts.raw_handle.HandleSlot.{the_row}
use Rattle.aug_c.specs.Holding.{Content}

abbrev pub content_coded : Coded Content
content_coded = coded_option the_row.coded
