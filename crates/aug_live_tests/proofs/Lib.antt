mod Bands
